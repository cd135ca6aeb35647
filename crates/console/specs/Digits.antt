-- What the programs write of a number's bits.
use Rattle.std.specs.Prelude.{ℕ, ◌-◌, ◌^◌, List, [], false}
use Rattle.std.specs.Fmt.{digits, padded_integral, format_spec}

-- eight hexadecimal digits, zeros in front: filled with `0` (32 and 4 say so) up to eight
abbrev pub eight_hex : ℕ → List ℕ
eight_hex n = padded_integral (format_spec 32 0 4 8 (2 ^ 64 - 1)) false [] (digits 16 false n)
