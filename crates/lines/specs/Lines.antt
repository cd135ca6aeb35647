-- The lines of the page file, one by one: a key, and values parted by commas.
use Rattle.lines.specs.declared.NodeWords.{NodeWords}
use Rattle.lines.specs.declared.Flags.{Flags}
use Rattle.lines.specs.declared.FieldNumber.{FieldNumber}
use Rattle.length.specs.declared.AvailableSpace.{AvailableSpace}
use Rattle.geometry.specs.declared.Size.{Size}
use Rattle.std.specs.Prelude.{cond, List, [], ◌∷◌, ℕ, length, drop, eqb, Option, None, Some, Float}
use Rattle.length.specs.declared.AvailableSpace.TheVariants.{Definite, MinContent, MaxContent}
use Rattle.text.specs.Pieces.{split, starts_with, same, piece_at}
use Rattle.text.specs.Values.{value_of, hex_of, float_of, number_of}

-- the keys, as bytes
abbrev pub nodes= : List ℕ
nodes= = 110 ∷ 111 ∷ 100 ∷ 101 ∷ 115 ∷ 61 ∷ []

abbrev pub parent= : List ℕ
parent= = 112 ∷ 97 ∷ 114 ∷ 101 ∷ 110 ∷ 116 ∷ 61 ∷ []

abbrev pub known= : List ℕ
known= = 107 ∷ 110 ∷ 111 ∷ 119 ∷ 110 ∷ 61 ∷ []

abbrev pub avail= : List ℕ
avail= = 97 ∷ 118 ∷ 97 ∷ 105 ∷ 108 ∷ 61 ∷ []

abbrev pub lines= : List ℕ
lines= = 108 ∷ 105 ∷ 110 ∷ 101 ∷ 115 ∷ 61 ∷ []

abbrev pub node= : List ℕ
node= = 110 ∷ 111 ∷ 100 ∷ 101 ∷ 61 ∷ []

abbrev pub num= : List ℕ
num= = 110 ∷ 117 ∷ 109 ∷ 61 ∷ []

-- the words none, min and max
abbrev pub none : List ℕ
none = 110 ∷ 111 ∷ 110 ∷ 101 ∷ []

abbrev pub min : List ℕ
min = 109 ∷ 105 ∷ 110 ∷ []

abbrev pub max : List ℕ
max = 109 ∷ 97 ∷ 120 ∷ []

-- a line with this key, read by what follows the key; else it is bad
abbrev pub keyed : {A : Type 0} → List ℕ → List ℕ → (List ℕ → A) → A → A
keyed key l read bad = cond (starts_with key l) (read (drop (length key) l)) bad

-- the fields of a value: n of them, or it is bad
abbrev pub fielded : {A : Type 0} → ℕ → List ℕ → A → A → A
fielded n s good bad = cond (eqb (length (split 44 s)) n) good bad

-- field k
abbrev pub field_of : List ℕ → ℕ → List ℕ
field_of s k = piece_at (split 44 s) k

-- nodes= and a decimal number up to the limit
unfoldable pub nodes_line : ℕ → List ℕ → Option ℕ
nodes_line limit l = keyed nodes= l (value_of 10 limit) None

-- parent= and a bit pattern
unfoldable pub parent_line : List ℕ → Option Float
parent_line l = keyed parent= l (λ s. number_of (hex_of s)) None

-- a known size: none, or a bit pattern
unfoldable pub known_hex : Option ℕ → Option (Option Float)
known_hex None = None
known_hex (Some w) = Some (Some (float_of w))

unfoldable pub known_field : List ℕ → Option (Option Float)
known_field s = cond (same none s) (Some None) (known_hex (hex_of s))

unfoldable pub known_line_of : Option (Option Float) → Option (Option Float) → Option (Size (Option Float))
known_line_of None h = None
known_line_of (Some w) None = None
known_line_of (Some w) (Some h) = Some (record { width = w; height = h })

-- known= and two known sizes
unfoldable pub known_text : List ℕ → Option (Size (Option Float))
known_text s = fielded 2 s (known_line_of (known_field (field_of s 0)) (known_field (field_of s 1))) None

unfoldable pub known_line : List ℕ → Option (Size (Option Float))
known_line l = keyed known= l known_text None

-- avail= and min, max or a bit pattern
unfoldable pub definite_of : Option ℕ → Option AvailableSpace
definite_of None = None
definite_of (Some w) = Some (Definite (float_of w))

unfoldable pub avail_text : List ℕ → Option AvailableSpace
avail_text s = cond (same min s) (Some MinContent) (cond (same max s) (Some MaxContent) (definite_of (hex_of s)))

unfoldable pub avail_line : List ℕ → Option AvailableSpace
avail_line l = keyed avail= l avail_text None

-- a flag: one digit, 0 or 1
unfoldable pub flag_of : List ℕ → Option ℕ
flag_of s = cond (eqb (length s) 1) (value_of 10 1 s) None

unfoldable pub flags_of : Option ℕ → Option ℕ → Option ℕ → Option Flags
flags_of None b c = None
flags_of (Some a) None c = None
flags_of (Some a) (Some b) None = None
flags_of (Some a) (Some b) (Some c) = Some (record { collapseStart = eqb a 1; collapseEnd = eqb b 1; definiteHeight = eqb c 1 })

-- lines= and three flags
unfoldable pub flags_text : List ℕ → Option Flags
flags_text s = fielded 3 s (flags_of (flag_of (field_of s 0)) (flag_of (field_of s 1)) (flag_of (field_of s 2))) None

unfoldable pub flags_line : List ℕ → Option Flags
flags_line l = keyed lines= l flags_text None

-- four words
unfoldable pub units_of : ℕ → ℕ → Option ℕ → Option ℕ → Option NodeWords
units_of a b None d = None
units_of a b (Some c) None = None
units_of a b (Some c) (Some d) = Some (record { size = a; style = b; low = c; high = d })

unfoldable pub words_of : Option ℕ → Option ℕ → Option ℕ → Option ℕ → Option NodeWords
words_of None b c d = None
words_of (Some a) None c d = None
words_of (Some a) (Some b) c d = units_of a b c d

-- node= and four words
unfoldable pub node_text : List ℕ → Option NodeWords
node_text s = fielded 4 s (words_of (hex_of (field_of s 0)) (hex_of (field_of s 1)) (hex_of (field_of s 2)) (hex_of (field_of s 3))) None

unfoldable pub node_line : List ℕ → Option NodeWords
node_line l = keyed node= l node_text None

-- num= and a field up to 27 with a bit pattern
unfoldable pub num_of : Option ℕ → Option ℕ → Option FieldNumber
num_of None w = None
num_of (Some f) None = None
num_of (Some f) (Some w) = Some (record { field = f; value = float_of w })

unfoldable pub num_text : List ℕ → Option FieldNumber
num_text s = fielded 2 s (num_of (value_of 10 27 (field_of s 0)) (hex_of (field_of s 1))) None

unfoldable pub num_line : List ℕ → Option FieldNumber
num_line l = keyed num= l num_text None
