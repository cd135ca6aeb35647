-- Eight more pages, from their tables: boxes that are through, that are passed out, and gaps of both signs. What is told of each was worked out beforehand, by programs that share no code with this one.
use Rattle.std.specs.Prelude.{◌≡◌, refl, true, false, List, [], ◌∷◌, map, ℕ, ◌*◌, replicate, Float, None, Some}
use Rattle.std.specs.Float.Ieee.{of_bits}
use Rattle.std.specs.Float.{binary32}
use Rattle.geometry.specs.Geometry.{zero_f}
use Rattle.length.specs.declared.AvailableSpace.TheVariants.{Definite, MinContent}
use Rattle.steps.specs.Page.{nodes_in}
use Rattle.steps.specs.Question.{root_input}
use Rattle.steps.specs.declared.Question.{Question}
use Rattle.steps.proofs.Computed.{steps}
use Rattle.facts.specs.Pages.{Given, given, numbers_of}
use Rattle.classes.specs.Engine.{Told, Through, Passed, Gap, pair_of, plain_gap, engine}
use Rattle.classes.specs.Real.{box_t}
use Rattle.classes.specs.OnTables.{boxes_on}

-- words of the nodes, the numbers that are not 0, the question, and what is told of each box below the root
pub record Case : Type 0 where
  pub words : List ℕ
  pub numbers : List Given
  pub question : Question
  pub told : List (ℕ × Told)

abbrev bits : ℕ → Float
bits b = of_bits binary32 b

abbrev at : ℕ → ℕ → ℕ × Told
at i b = (i, Gap (bits b))

unfoldable pub first : Case
first =
    record {
      words = 0x00000008 ∷ 0x0000000c ∷ 0x05555010 ∷ 0x00001059
          ∷ 0x00000006 ∷ 0x00000000 ∷ 0x05655004 ∷ 0x00005155
          ∷ 0x00000001 ∷ 0x0000002d ∷ 0x05555000 ∷ 0x00000055
          ∷ 0x00000004 ∷ 0x00000010 ∷ 0x05651000 ∷ 0x00005455
          ∷ 0x00000001 ∷ 0x00000018 ∷ 0x05555021 ∷ 0x00005056
          ∷ 0x00000001 ∷ 0x00000008 ∷ 0x05555000 ∷ 0x00001055
          ∷ 0x00000001 ∷ 0x00000024 ∷ 0x05555100 ∷ 0x00000455
          ∷ 0x00000001 ∷ 0x00010101 ∷ 0x05515006 ∷ 0x00005195 ∷ [];
      numbers = given 0 2 0x43480000 ∷ given 0 3 0x3f800000 ∷ given 0 6 0x41c80000 ∷ given 0 8 0x40a00000 ∷ given 0 9 0x41200000 ∷ given 0 21 0xc1a00000 ∷ given 0 24 0x41200000 ∷ given 0 25 0x42810000 ∷ given 0 26 0x42480000 ∷ given 0 27 0x40200000
          ∷ given 1 1 0x41200000 ∷ given 1 6 0x41000000 ∷ given 1 7 0xc0a00000 ∷ given 1 8 0xc0000000 ∷ given 1 18 0xc0400000 ∷ given 1 20 0xbf000000 ∷ given 1 21 0x40000000 ∷ given 1 24 0x40a00000 ∷ given 1 25 0x42a00000 ∷ given 1 26 0x40000000 ∷ given 1 27 0x40000000
          ∷ given 2 6 0xc0400000 ∷ given 2 9 0x40a00000 ∷ given 2 23 0x41700000 ∷ given 2 24 0x41200000 ∷ given 2 25 0x43960000 ∷ given 2 26 0x42480000 ∷ given 2 27 0x41a00000
          ∷ given 3 0 0x41a00000 ∷ given 3 6 0x3f000000 ∷ given 3 8 0xc0400000 ∷ given 3 10 0x3f000000 ∷ given 3 19 0xc0a00000 ∷ given 3 20 0xc0f00000 ∷ given 3 21 0xc0000000 ∷ given 3 25 0x42f00000 ∷ given 3 26 0x41f00000 ∷ given 3 27 0x40e00000
          ∷ given 4 0 0x41a00000 ∷ given 4 2 0x3e000000 ∷ given 4 3 0x40a00000 ∷ given 4 6 0x41000000 ∷ given 4 8 0xc1a00000 ∷ given 4 9 0x40a00000 ∷ given 4 20 0x41000000 ∷ given 4 21 0xbf800000 ∷ given 4 25 0x42f00000 ∷ given 4 26 0x3f000000 ∷ given 4 27 0x3f000000
          ∷ given 5 6 0x40000000 ∷ given 5 8 0x41200000 ∷ given 5 20 0x40400000 ∷ given 5 21 0xbf000000 ∷ given 5 23 0x41700000 ∷ given 5 25 0x40a00000 ∷ given 5 26 0x3f000000
          ∷ given 6 0 0x42040000 ∷ given 6 1 0x41200000 ∷ given 6 4 0x42040000 ∷ given 6 6 0x40a00000 ∷ given 6 8 0xc0a00000 ∷ given 6 19 0x41a00000 ∷ given 6 21 0xc1200000 ∷ given 6 23 0x40800000 ∷ given 6 24 0x40a00000 ∷ given 6 25 0x42480000 ∷ given 6 26 0x40400000 ∷ given 6 27 0x3f000000
          ∷ given 7 0 0x3f2aaaab ∷ given 7 1 0x41a00000 ∷ given 7 5 0x41f00000 ∷ given 7 6 0x41c80000 ∷ given 7 7 0xc0a00000 ∷ given 7 8 0xc0400000 ∷ given 7 20 0x3f800000 ∷ given 7 21 0x40400000 ∷ given 7 23 0x40800000 ∷ given 7 26 0x3f800000 ∷ given 7 27 0x3f800000 ∷ [];
      question = record { known = record { width = None; height = Some (bits 0x42c80000) }; parent = bits 0x42c80000; definiteHeight = false; available = Definite (bits 0x42c80000); collapseStart = true; collapseEnd = false };
      told = (1, Passed) ∷ (3, Passed) ∷ (4, Through) ∷ (5, Through) ∷ at 7 0x41b80000 ∷ [];
    }

unfoldable pub second : Case
second =
    record {
      words = 0x00000007 ∷ 0x00000000 ∷ 0x05555040 ∷ 0x00000559
          ∷ 0x00000001 ∷ 0x00002005 ∷ 0x05559010 ∷ 0x00000155
          ∷ 0x00000003 ∷ 0x00000000 ∷ 0x05545040 ∷ 0x00005855
          ∷ 0x00000002 ∷ 0x000003c0 ∷ 0x05555004 ∷ 0x00005455
          ∷ 0x00000001 ∷ 0x00000004 ∷ 0x05555000 ∷ 0x00004055
          ∷ 0x00000002 ∷ 0x00006108 ∷ 0x05555084 ∷ 0x00001555
          ∷ 0x00000001 ∷ 0x00000008 ∷ 0x05555000 ∷ 0x00001555 ∷ [];
      numbers = given 0 1 0x40a00000 ∷ given 0 3 0x40000000 ∷ given 0 6 0x40200000 ∷ given 0 7 0x41200000 ∷ given 0 9 0x3f000000 ∷ given 0 18 0xc0f00000 ∷ given 0 19 0x41a00000 ∷ given 0 23 0x40800000 ∷ given 0 24 0x40a00000 ∷ given 0 25 0x42a00000 ∷ given 0 26 0x41c80000 ∷ given 0 27 0x40a00000
          ∷ given 1 1 0x420e0000 ∷ given 1 2 0x40a00000 ∷ given 1 5 0x41000000 ∷ given 1 6 0x41c80000 ∷ given 1 7 0xbe800000 ∷ given 1 8 0x41000000 ∷ given 1 9 0xc1a00000 ∷ given 1 18 0xbf800000 ∷ given 1 23 0x41200000 ∷ given 1 24 0x42480000 ∷ given 1 25 0x42c80000 ∷ given 1 26 0x41280000 ∷ given 1 27 0x41000000
          ∷ given 2 0 0x42040000 ∷ given 2 3 0x40800000 ∷ given 2 4 0x42c80000 ∷ given 2 6 0xc0000000 ∷ given 2 7 0xc0000000 ∷ given 2 9 0x41200000 ∷ given 2 19 0x3f000000 ∷ given 2 20 0x3f800000 ∷ given 2 21 0xbf000000 ∷ given 2 23 0x3f800000 ∷ given 2 24 0x42480000 ∷ given 2 25 0x43480000 ∷ given 2 26 0x40a00000 ∷ given 2 27 0x40a00000
          ∷ given 3 1 0x40800000 ∷ given 3 5 0x41a00000 ∷ given 3 6 0x41c80000 ∷ given 3 8 0xc1a00000 ∷ given 3 9 0x3f000000 ∷ given 3 19 0x41a00000 ∷ given 3 20 0xbf800000 ∷ given 3 21 0x3f000000 ∷ given 3 23 0x41200000 ∷ given 3 24 0x42f00000 ∷ given 3 25 0x42f00000 ∷ given 3 26 0x41280000 ∷ given 3 27 0x41280000
          ∷ given 4 0 0x42c80000 ∷ given 4 1 0x420e0000 ∷ given 4 6 0x3f800000 ∷ given 4 7 0x41200000 ∷ given 4 8 0xc0a00000 ∷ given 4 9 0xc0000000 ∷ given 4 23 0x41700000 ∷ given 4 25 0x43960000 ∷ given 4 26 0x41c80000 ∷ given 4 27 0x40e00000
          ∷ given 5 1 0x3f800000 ∷ given 5 6 0xc0000000 ∷ given 5 7 0xbf800000 ∷ given 5 8 0x40400000 ∷ given 5 9 0x40000000 ∷ given 5 18 0x40a00000 ∷ given 5 20 0xc0400000 ∷ given 5 23 0x40800000 ∷ given 5 24 0x42040000 ∷ given 5 25 0x42f00000 ∷ given 5 26 0x41200000
          ∷ given 6 1 0x41200000 ∷ given 6 6 0xc1a00000 ∷ given 6 7 0xc0a00000 ∷ given 6 8 0x41000000 ∷ given 6 9 0x41200000 ∷ given 6 16 0x41400000 ∷ given 6 18 0x3f800000 ∷ given 6 19 0x3f000000 ∷ given 6 20 0xc1a00000 ∷ given 6 23 0x40200000 ∷ given 6 24 0x40a00000 ∷ given 6 25 0x41a00000 ∷ given 6 26 0x40200000 ∷ given 6 27 0x40200000 ∷ [];
      question = record { known = record { width = None; height = None }; parent = bits 0x42480000; definiteHeight = false; available = Definite (bits 0x42c70000); collapseStart = true; collapseEnd = true };
      told = (1, Passed) ∷ at 2 0x41b80000 ∷ (3, Passed) ∷ (4, Through) ∷ at 5 0xc0000000 ∷ at 6 0xc1a00000 ∷ [];
    }

unfoldable pub third : Case
third =
    record {
      words = 0x00000008 ∷ 0x00000000 ∷ 0x06696800 ∷ 0x00001559
          ∷ 0x00000001 ∷ 0x00000021 ∷ 0x06564001 ∷ 0x00009159
          ∷ 0x00000001 ∷ 0x00000010 ∷ 0x0556a002 ∷ 0x00009065
          ∷ 0x00000003 ∷ 0x00000000 ∷ 0x0a999412 ∷ 0x0000069a
          ∷ 0x00000001 ∷ 0x00010001 ∷ 0x056a5120 ∷ 0x00006696
          ∷ 0x00000001 ∷ 0x00000014 ∷ 0x0999a441 ∷ 0x00002469
          ∷ 0x00000001 ∷ 0x000000c1 ∷ 0x05a84026 ∷ 0x00001155
          ∷ 0x00000001 ∷ 0x00000009 ∷ 0x05915000 ∷ 0x0000155a ∷ [];
      numbers = given 0 5 0x3e000000 ∷ given 0 6 0x3f666666 ∷ given 0 7 0x41a00000 ∷ given 0 8 0xc1200000 ∷ given 0 9 0x3f000000 ∷ given 0 18 0x3f000000 ∷ given 0 19 0xc1200000 ∷ given 0 20 0xbf800000 ∷ given 0 23 0x40800000 ∷ given 0 24 0x41a00000 ∷ given 0 25 0x42f00000 ∷ given 0 26 0x41200000 ∷ given 0 27 0x40a00000
          ∷ given 1 0 0x43480000 ∷ given 1 1 0x41280000 ∷ given 1 4 0x42c80000 ∷ given 1 7 0x40a00000 ∷ given 1 8 0x3f000000 ∷ given 1 9 0x3f000000 ∷ given 1 10 0x41200000 ∷ given 1 18 0x3f000000 ∷ given 1 20 0x40200000 ∷ given 1 21 0x3e99999a ∷ given 1 23 0x41700000 ∷ given 1 24 0x41a00000 ∷ given 1 25 0x42a00000 ∷ given 1 26 0x40200000
          ∷ given 2 0 0x3f000000 ∷ given 2 6 0x3dcccccd ∷ given 2 7 0x3f000000 ∷ given 2 8 0xbf000000 ∷ given 2 9 0xbf800000 ∷ given 2 17 0x40e00000 ∷ given 2 20 0xbf000000 ∷ given 2 21 0xbe800000 ∷ given 2 23 0x3f800000 ∷ given 2 24 0x41a00000 ∷ given 2 25 0x42480000 ∷ given 2 26 0x40e00000 ∷ given 2 27 0x40e00000
          ∷ given 3 0 0x3f000000 ∷ given 3 1 0x41400000 ∷ given 3 3 0x40e00000 ∷ given 3 5 0x41000000 ∷ given 3 7 0xbe000000 ∷ given 3 8 0x40a00000 ∷ given 3 9 0x3f2aaaab ∷ given 3 18 0x3f000000 ∷ given 3 19 0x41a00000 ∷ given 3 24 0x43960000 ∷ given 3 25 0x43960000 ∷ given 3 26 0x40400000 ∷ given 3 27 0x40400000
          ∷ given 4 2 0x3e800000 ∷ given 4 4 0x40a00000 ∷ given 4 5 0x3fc00000 ∷ given 4 6 0x3f000000 ∷ given 4 7 0x41200000 ∷ given 4 8 0xbdcccccd ∷ given 4 9 0xbf000000 ∷ given 4 10 0x3e99999a ∷ given 4 18 0x3dcccccd ∷ given 4 19 0xc0000000 ∷ given 4 20 0xbeaaaaab ∷ given 4 21 0xc0a00000 ∷ given 4 25 0x41a00000 ∷ given 4 26 0x41400000 ∷ given 4 27 0x41400000
          ∷ given 5 0 0x42040000 ∷ given 5 2 0x42f00000 ∷ given 5 3 0x40e00000 ∷ given 5 5 0x3f000000 ∷ given 5 6 0xbeaaaaab ∷ given 5 7 0x3f000000 ∷ given 5 8 0x40200000 ∷ given 5 9 0x3f800000 ∷ given 5 17 0x40800000 ∷ given 5 19 0x40a00000 ∷ given 5 20 0x3dcccccd ∷ given 5 23 0x41700000 ∷ given 5 25 0x42810000 ∷ given 5 26 0x3f800000 ∷ given 5 27 0x3f800000
          ∷ given 6 0 0x3e000000 ∷ given 6 1 0x40800000 ∷ given 6 2 0x3f666666 ∷ given 6 7 0xc0a00000 ∷ given 6 9 0x3e99999a ∷ given 6 18 0x3f800000 ∷ given 6 20 0x41a00000 ∷ given 6 23 0x41200000 ∷ given 6 25 0x42040000 ∷ given 6 26 0x41c80000 ∷ given 6 27 0x40200000
          ∷ given 7 4 0x42810000 ∷ given 7 6 0x40a00000 ∷ given 7 7 0xc0a00000 ∷ given 7 8 0x40000000 ∷ given 7 16 0x41000000 ∷ given 7 18 0xc0400000 ∷ given 7 19 0x40400000 ∷ given 7 20 0x40200000 ∷ given 7 23 0x40200000 ∷ given 7 24 0x42a00000 ∷ given 7 25 0x42c80000 ∷ given 7 26 0x3f000000 ∷ given 7 27 0x3f000000 ∷ [];
      question = record { known = record { width = None; height = Some (bits 0x42c80000) }; parent = bits 0x42800000; definiteHeight = true; available = MinContent; collapseStart = false; collapseEnd = false };
      told = (2, Through) ∷ at 3 0xc1f00000 ∷ (4, Passed) ∷ at 5 0xc1480000 ∷ at 6 0x40a00000 ∷ at 7 0x40a00000 ∷ [];
    }

unfoldable pub fourth : Case
fourth =
    record {
      words = 0x00000008 ∷ 0x00000004 ∷ 0x05552000 ∷ 0x00001159
          ∷ 0x00000001 ∷ 0x00000000 ∷ 0x05555100 ∷ 0x00004456
          ∷ 0x00000001 ∷ 0x00000000 ∷ 0x05645100 ∷ 0x00005655
          ∷ 0x00000005 ∷ 0x00000000 ∷ 0x05529140 ∷ 0x00001155
          ∷ 0x00000004 ∷ 0x00000000 ∷ 0x05511000 ∷ 0x00009555
          ∷ 0x00000001 ∷ 0x00000010 ∷ 0x09515005 ∷ 0x00001056
          ∷ 0x00000002 ∷ 0x00000018 ∷ 0x05555004 ∷ 0x00004465
          ∷ 0x00000001 ∷ 0x00000004 ∷ 0x05594000 ∷ 0x00000455 ∷ [];
      numbers = given 0 2 0x42480000 ∷ given 0 4 0x42810000 ∷ given 0 6 0xbf400000 ∷ given 0 8 0x41c80000 ∷ given 0 9 0x41200000 ∷ given 0 15 0x3f000000 ∷ given 0 18 0xbf000000 ∷ given 0 20 0xbf000000 ∷ given 0 23 0x40800000 ∷ given 0 24 0x43960000 ∷ given 0 25 0x43960000 ∷ given 0 26 0x40200000 ∷ given 0 27 0x40200000
          ∷ given 1 0 0x41200000 ∷ given 1 4 0x42810000 ∷ given 1 6 0xc0000000 ∷ given 1 8 0x41000000 ∷ given 1 14 0x3f400000 ∷ given 1 18 0xc1200000 ∷ given 1 19 0x40200000 ∷ given 1 21 0xc0000000 ∷ given 1 23 0x41700000 ∷ given 1 24 0x40a00000 ∷ given 1 25 0x42810000 ∷ given 1 26 0x3fc00000 ∷ given 1 27 0x3fc00000
          ∷ given 2 6 0xc1a00000 ∷ given 2 9 0xc0a00000 ∷ given 2 10 0x3e800000 ∷ given 2 18 0xbf000000 ∷ given 2 19 0x41c80000 ∷ given 2 20 0xc1a00000 ∷ given 2 21 0xc0f00000 ∷ given 2 23 0x3f800000 ∷ given 2 24 0x42810000 ∷ given 2 25 0x42a00000
          ∷ given 3 1 0x40a00000 ∷ given 3 4 0x43960000 ∷ given 3 6 0xc1200000 ∷ given 3 7 0x3e800000 ∷ given 3 8 0x3dcccccd ∷ given 3 23 0x3f800000 ∷ given 3 24 0x42480000 ∷ given 3 25 0x42c80000 ∷ given 3 26 0x40e00000
          ∷ given 4 2 0x42810000 ∷ given 4 6 0x40400000 ∷ given 4 18 0x41200000 ∷ given 4 19 0x3f000000 ∷ given 4 20 0xc0f00000 ∷ given 4 21 0xbf000000 ∷ given 4 23 0x40800000 ∷ given 4 24 0x42040000 ∷ given 4 25 0x42a00000 ∷ given 4 26 0x41280000 ∷ given 4 27 0x41280000
          ∷ given 5 0 0x43960000 ∷ given 5 1 0x40a00000 ∷ given 5 2 0x42c80000 ∷ given 5 3 0x41200000 ∷ given 5 6 0xc0a00000 ∷ given 5 13 0x3e800000 ∷ given 5 14 0x3e000000 ∷ given 5 19 0xc0200000 ∷ given 5 20 0xbf000000 ∷ given 5 23 0x3f800000 ∷ given 5 24 0x42040000 ∷ given 5 25 0x42810000 ∷ given 5 26 0x41a00000
          ∷ given 6 0 0x42480000 ∷ given 6 1 0x41200000 ∷ given 6 6 0x40a00000 ∷ given 6 7 0x40a00000 ∷ given 6 8 0x41200000 ∷ given 6 9 0xc0a00000 ∷ given 6 16 0x3f2aaaab ∷ given 6 19 0x40200000 ∷ given 6 21 0x3f800000 ∷ given 6 23 0x41200000 ∷ given 6 25 0x42810000 ∷ given 6 26 0x41280000 ∷ given 6 27 0x40a00000
          ∷ given 7 4 0x42040000 ∷ given 7 8 0x40000000 ∷ given 7 9 0xbe800000 ∷ given 7 19 0x40000000 ∷ given 7 23 0x40200000 ∷ given 7 24 0x42a00000 ∷ given 7 25 0x43480000 ∷ given 7 26 0x41f00000 ∷ [];
      question = record { known = record { width = None; height = None }; parent = bits 0x43a00000; definiteHeight = false; available = Definite (bits 0x43a00000); collapseStart = true; collapseEnd = true };
      told = (1, Passed) ∷ at 2 0xc1400000 ∷ at 3 0xc0e00000 ∷ (4, Passed) ∷ (5, Passed) ∷ at 6 0x40a00000 ∷ (7, Through) ∷ [];
    }

unfoldable pub fifth : Case
fifth =
    record {
      words = 0x00000008 ∷ 0x00000000 ∷ 0x05595101 ∷ 0x00000055
          ∷ 0x00000002 ∷ 0x00000000 ∷ 0x05555000 ∷ 0x00004555
          ∷ 0x00000001 ∷ 0x00000000 ∷ 0x05555001 ∷ 0x00004459
          ∷ 0x00000005 ∷ 0x00000100 ∷ 0x05555000 ∷ 0x00005555
          ∷ 0x00000004 ∷ 0x00000008 ∷ 0x09515010 ∷ 0x00000055
          ∷ 0x00000003 ∷ 0x000208d8 ∷ 0x05555004 ∷ 0x00004555
          ∷ 0x00000002 ∷ 0x00000010 ∷ 0x06515000 ∷ 0x00000155
          ∷ 0x00000001 ∷ 0x00010011 ∷ 0x05555000 ∷ 0x00001555 ∷ [];
      numbers = given 0 0 0x42a00000 ∷ given 0 4 0x42040000 ∷ given 0 5 0x40a00000 ∷ given 0 6 0xbf000000 ∷ given 0 7 0x40a00000 ∷ given 0 8 0xc0400000 ∷ given 0 9 0x3f2aaaab ∷ given 0 15 0x41000000 ∷ given 0 24 0x43480000 ∷ given 0 25 0x43480000 ∷ given 0 26 0x3f800000 ∷ given 0 27 0x3f800000
          ∷ given 1 0 0x42f00000 ∷ given 1 2 0x40a00000 ∷ given 1 6 0x41000000 ∷ given 1 8 0xc0f00000 ∷ given 1 9 0x40a00000 ∷ given 1 19 0x41200000 ∷ given 1 21 0x41c80000 ∷ given 1 23 0x41200000 ∷ given 1 24 0x40a00000 ∷ given 1 25 0x42810000 ∷ given 1 26 0x41c80000 ∷ given 1 27 0x3f800000
          ∷ given 2 0 0x42040000 ∷ given 2 6 0x41000000 ∷ given 2 8 0x40a00000 ∷ given 2 9 0x41200000 ∷ given 2 15 0x3e800000 ∷ given 2 19 0xc1a00000 ∷ given 2 21 0xc1200000 ∷ given 2 23 0x40800000 ∷ given 2 24 0x42810000 ∷ given 2 25 0x43480000 ∷ given 2 26 0x3f800000 ∷ given 2 27 0x3f800000
          ∷ given 3 6 0x41200000 ∷ given 3 8 0xbf000000 ∷ given 3 11 0x40800000 ∷ given 3 14 0x3f000000 ∷ given 3 18 0xc0a00000 ∷ given 3 19 0x40000000 ∷ given 3 20 0xbf000000 ∷ given 3 21 0x41000000 ∷ given 3 23 0x41700000 ∷ given 3 25 0x41200000 ∷ given 3 26 0x3f000000
          ∷ given 4 0 0x42c80000 ∷ given 4 2 0x42480000 ∷ given 4 4 0x43480000 ∷ given 4 6 0x41000000 ∷ given 4 8 0x40200000 ∷ given 4 13 0x3e99999a ∷ given 4 18 0x40400000 ∷ given 4 24 0x42480000 ∷ given 4 25 0x42f00000 ∷ given 4 26 0x3fc00000 ∷ given 4 27 0x3fc00000
          ∷ given 5 1 0x40800000 ∷ given 5 2 0x42480000 ∷ given 5 7 0x40a00000 ∷ given 5 8 0xc0f00000 ∷ given 5 18 0x41c80000 ∷ given 5 19 0x40a00000 ∷ given 5 20 0x41c80000 ∷ given 5 21 0xc0000000 ∷ given 5 23 0x41200000 ∷ given 5 24 0x42a00000 ∷ given 5 25 0x43960000 ∷ given 5 26 0x41280000 ∷ given 5 27 0x41280000
          ∷ given 6 0 0x42480000 ∷ given 6 6 0xc1a00000 ∷ given 6 8 0x40200000 ∷ given 6 12 0x3f800000 ∷ given 6 17 0x41400000 ∷ given 6 18 0xc0400000 ∷ given 6 23 0x41700000 ∷ given 6 24 0x42040000 ∷ given 6 25 0x42c80000 ∷ given 6 26 0x40e00000 ∷ given 6 27 0x40e00000
          ∷ given 7 6 0x40400000 ∷ given 7 7 0x41200000 ∷ given 7 8 0x41a00000 ∷ given 7 14 0x41000000 ∷ given 7 15 0x3fc00000 ∷ given 7 18 0x40200000 ∷ given 7 19 0x40000000 ∷ given 7 20 0x41c80000 ∷ given 7 23 0x40200000 ∷ given 7 24 0x40a00000 ∷ given 7 25 0x41200000 ∷ given 7 26 0x40a00000 ∷ given 7 27 0x40a00000 ∷ [];
      question = record { known = record { width = None; height = None }; parent = bits 0x43480000; definiteHeight = true; available = Definite (bits 0x42480000); collapseStart = true; collapseEnd = true };
      told = (1, Through) ∷ (2, Through) ∷ (3, Passed) ∷ at 4 0x41000000 ∷ (5, Passed) ∷ at 6 0xc1880000 ∷ (7, Passed) ∷ [];
    }

unfoldable pub sixth : Case
sixth =
    record {
      words = 0x00000008 ∷ 0x00000000 ∷ 0x05655000 ∷ 0x00004155
          ∷ 0x00000003 ∷ 0x00000014 ∷ 0x0659551a ∷ 0x00001055
          ∷ 0x00000001 ∷ 0x000100c1 ∷ 0x05555025 ∷ 0x00002455
          ∷ 0x00000001 ∷ 0x00000000 ∷ 0x05555081 ∷ 0x0000a155
          ∷ 0x00000001 ∷ 0x00000010 ∷ 0x09655140 ∷ 0x00006855
          ∷ 0x00000003 ∷ 0x0000000c ∷ 0x05544080 ∷ 0x00005156
          ∷ 0x00000002 ∷ 0x00000008 ∷ 0x06555004 ∷ 0x00000455
          ∷ 0x00000001 ∷ 0x00010001 ∷ 0x05515101 ∷ 0x0000a195 ∷ [];
      numbers = given 0 0 0x43960000 ∷ given 0 5 0x40a00000 ∷ given 0 6 0x41c80000 ∷ given 0 7 0x40a00000 ∷ given 0 18 0xbf800000 ∷ given 0 21 0xc0a00000 ∷ given 0 23 0x40200000 ∷ given 0 24 0x42810000 ∷ given 0 25 0x42f00000 ∷ given 0 26 0x3f000000 ∷ given 0 27 0x3f000000
          ∷ given 1 0 0x3f666666 ∷ given 1 1 0x3f000000 ∷ given 1 2 0x43480000 ∷ given 1 5 0x40a00000 ∷ given 1 6 0x41a00000 ∷ given 1 7 0xc0000000 ∷ given 1 8 0x41200000 ∷ given 1 9 0xbf000000 ∷ given 1 20 0xbf000000 ∷ given 1 23 0x3f800000 ∷ given 1 24 0x42a00000 ∷ given 1 25 0x43960000 ∷ given 1 26 0x3fc00000
          ∷ given 2 0 0x41200000 ∷ given 2 1 0x40800000 ∷ given 2 2 0x3f800000 ∷ given 2 3 0x41200000 ∷ given 2 6 0xc0a00000 ∷ given 2 7 0x40200000 ∷ given 2 8 0x40a00000 ∷ given 2 9 0x41200000 ∷ given 2 20 0xbe800000 ∷ given 2 23 0x41200000 ∷ given 2 24 0x42040000 ∷ given 2 25 0x42c80000
          ∷ given 3 0 0x41200000 ∷ given 3 1 0x3e99999a ∷ given 3 2 0x41a00000 ∷ given 3 3 0x3e99999a ∷ given 3 5 0x40a00000 ∷ given 3 6 0x41a00000 ∷ given 3 7 0xc0400000 ∷ given 3 8 0x41c80000 ∷ given 3 9 0xc1a00000 ∷ given 3 18 0x40400000 ∷ given 3 20 0xbeaaaaab ∷ given 3 21 0x3f666666 ∷ given 3 23 0x41700000 ∷ given 3 24 0x41200000 ∷ given 3 25 0x42810000 ∷ given 3 26 0x41400000 ∷ given 3 27 0x41400000
          ∷ given 4 1 0x40a00000 ∷ given 4 3 0x3f800000 ∷ given 4 5 0x40a00000 ∷ given 4 7 0x40000000 ∷ given 4 9 0x3f800000 ∷ given 4 17 0x41000000 ∷ given 4 19 0x3f400000 ∷ given 4 20 0x3f400000 ∷ given 4 23 0x41700000 ∷ given 4 24 0x42c80000 ∷ given 4 25 0x43480000 ∷ given 4 26 0x3f000000 ∷ given 4 27 0x3e800000
          ∷ given 5 0 0x42810000 ∷ given 5 1 0x40a00000 ∷ given 5 3 0x3f000000 ∷ given 5 5 0x41f00000 ∷ given 5 7 0xc1a00000 ∷ given 5 9 0x41200000 ∷ given 5 13 0x41400000 ∷ given 5 18 0xc0000000 ∷ given 5 20 0x40200000 ∷ given 5 21 0xbf800000 ∷ given 5 23 0x40200000 ∷ given 5 24 0x42480000 ∷ given 5 25 0x43480000 ∷ given 5 26 0x41280000 ∷ given 5 27 0x3f800000
          ∷ given 6 1 0x42c80000 ∷ given 6 6 0x40a00000 ∷ given 6 7 0x3f800000 ∷ given 6 8 0x40400000 ∷ given 6 9 0x40a00000 ∷ given 6 19 0x40400000 ∷ given 6 21 0xc1a00000 ∷ given 6 24 0x42480000 ∷ given 6 25 0x43960000 ∷ given 6 26 0x41400000
          ∷ given 7 0 0x42810000 ∷ given 7 1 0x3f2aaaab ∷ given 7 4 0x42c80000 ∷ given 7 6 0xc0a00000 ∷ given 7 7 0x3f000000 ∷ given 7 8 0x41000000 ∷ given 7 17 0x3e99999a ∷ given 7 18 0xc0400000 ∷ given 7 20 0x3dcccccd ∷ given 7 21 0xbf000000 ∷ given 7 23 0x41200000 ∷ given 7 24 0x42810000 ∷ given 7 25 0x42f00000 ∷ given 7 26 0x41280000 ∷ given 7 27 0x41280000 ∷ [];
      question = record { known = record { width = Some (bits 0x00000000); height = None }; parent = bits 0x42480000; definiteHeight = true; available = Definite (bits 0x42480000); collapseStart = false; collapseEnd = true };
      told = at 1 0x41700000 ∷ (2, Passed) ∷ (3, Through) ∷ at 4 0x41c80000 ∷ at 5 0x00000000 ∷ (6, Passed) ∷ (7, Passed) ∷ [];
    }

unfoldable pub seventh : Case
seventh =
    record {
      words = 0x00000008 ∷ 0x0000000c ∷ 0x0555508a ∷ 0x00000299
          ∷ 0x00000001 ∷ 0x00010001 ∷ 0x09555005 ∷ 0x00000255
          ∷ 0x00000001 ∷ 0x00000010 ∷ 0x095a6006 ∷ 0x00002265
          ∷ 0x00000002 ∷ 0x00000000 ∷ 0x05555889 ∷ 0x00002256
          ∷ 0x00000001 ∷ 0x00000000 ∷ 0x05521040 ∷ 0x00005855
          ∷ 0x00000003 ∷ 0x00000000 ∷ 0x05556000 ∷ 0x00006055
          ∷ 0x00000002 ∷ 0x00000012 ∷ 0x055a5061 ∷ 0x00002055
          ∷ 0x00000001 ∷ 0x00010009 ∷ 0x05559000 ∷ 0x00001259 ∷ [];
      numbers = given 0 0 0x3e99999a ∷ given 0 1 0x3f666666 ∷ given 0 3 0x3e800000 ∷ given 0 6 0x3f800000 ∷ given 0 7 0x40a00000 ∷ given 0 8 0x40200000 ∷ given 0 9 0x41a00000 ∷ given 0 18 0xbdcccccd ∷ given 0 21 0x41000000 ∷ given 0 24 0x42040000 ∷ given 0 25 0x42f00000 ∷ given 0 26 0x3f800000
          ∷ given 1 0 0x41a00000 ∷ given 1 1 0x42c80000 ∷ given 1 6 0x3f000000 ∷ given 1 7 0x3f000000 ∷ given 1 8 0x40000000 ∷ given 1 13 0x3e000000 ∷ given 1 18 0xbdcccccd ∷ given 1 19 0x41000000 ∷ given 1 24 0x41a00000 ∷ given 1 25 0x42f00000 ∷ given 1 26 0x41200000 ∷ given 1 27 0x41200000
          ∷ given 2 3 0x40a00000 ∷ given 2 4 0x42810000 ∷ given 2 6 0x3f000000 ∷ given 2 7 0xbf800000 ∷ given 2 8 0x3e800000 ∷ given 2 9 0x3f400000 ∷ given 2 13 0x3f2aaaab ∷ given 2 18 0x3f000000 ∷ given 2 23 0x40800000 ∷ given 2 24 0x41a00000 ∷ given 2 25 0x41a00000 ∷ given 2 26 0x41a00000
          ∷ given 3 0 0x42c80000 ∷ given 3 1 0x3f000000 ∷ given 3 3 0x3eaaaaab ∷ given 3 5 0x3e99999a ∷ given 3 6 0xbf000000 ∷ given 3 7 0xc0f00000 ∷ given 3 8 0xc1200000 ∷ given 3 9 0x40200000 ∷ given 3 18 0xbdcccccd ∷ given 3 20 0x3f000000 ∷ given 3 23 0x41700000 ∷ given 3 25 0x42a00000 ∷ given 3 26 0x3f800000
          ∷ given 4 3 0x41200000 ∷ given 4 5 0x3f666666 ∷ given 4 6 0x40400000 ∷ given 4 8 0x3f2aaaab ∷ given 4 19 0xbf2aaaab ∷ given 4 20 0x41c80000 ∷ given 4 21 0x3f800000 ∷ given 4 23 0x40200000 ∷ given 4 24 0x41200000 ∷ given 4 25 0x42f00000 ∷ given 4 26 0x42480000 ∷ given 4 27 0x42480000
          ∷ given 5 0 0x42f00000 ∷ given 5 5 0x41f00000 ∷ given 5 6 0x3f800000 ∷ given 5 7 0x41000000 ∷ given 5 8 0x41a00000 ∷ given 5 9 0x3f800000 ∷ given 5 20 0x3f000000 ∷ given 5 21 0xc0000000 ∷ given 5 23 0x40200000 ∷ given 5 24 0x41a00000 ∷ given 5 25 0x42c80000 ∷ given 5 26 0x3fc00000 ∷ given 5 27 0x3fc00000
          ∷ given 6 0 0x42810000 ∷ given 6 1 0x3f000000 ∷ given 6 2 0x3f666666 ∷ given 6 3 0x41200000 ∷ given 6 6 0xc0a00000 ∷ given 6 9 0x3f000000 ∷ given 6 20 0x3f2aaaab ∷ given 6 23 0x3f800000 ∷ given 6 24 0x42810000 ∷ given 6 25 0x42f00000 ∷ given 6 26 0x42c80000 ∷ given 6 27 0x42c80000
          ∷ given 7 3 0x42700000 ∷ given 7 5 0x3e000000 ∷ given 7 6 0x3f800000 ∷ given 7 7 0xbe000000 ∷ given 7 8 0x41000000 ∷ given 7 9 0x41000000 ∷ given 7 18 0x3dcccccd ∷ given 7 20 0x40200000 ∷ given 7 22 0x80000000 ∷ given 7 23 0x40200000 ∷ given 7 24 0x42810000 ∷ given 7 25 0x43480000 ∷ given 7 26 0x42480000 ∷ given 7 27 0x41c80000 ∷ [];
      question = record { known = record { width = None; height = Some (bits 0x43a68000) }; parent = bits 0x42c70000; definiteHeight = true; available = Definite (bits 0x42c70000); collapseStart = true; collapseEnd = true };
      told = (1, Passed) ∷ (2, Through) ∷ at 3 0x4166cccd ∷ (4, Passed) ∷ (5, Through) ∷ [];
    }

unfoldable pub eighth : Case
eighth =
    record {
      words = 0x00000008 ∷ 0x00000000 ∷ 0x06595040 ∷ 0x00006055
          ∷ 0x00000001 ∷ 0x00000004 ∷ 0x055a4000 ∷ 0x00002055
          ∷ 0x00000001 ∷ 0x00000015 ∷ 0x05555010 ∷ 0x00001155
          ∷ 0x00000001 ∷ 0x00010001 ∷ 0x05655480 ∷ 0x00006165
          ∷ 0x00000003 ∷ 0x00000010 ∷ 0x05555060 ∷ 0x00000255
          ∷ 0x00000001 ∷ 0x00000005 ∷ 0x09695004 ∷ 0x00004195
          ∷ 0x00000001 ∷ 0x00000008 ∷ 0x05569001 ∷ 0x00001055
          ∷ 0x00000001 ∷ 0x00000001 ∷ 0x05565000 ∷ 0x00000655 ∷ [];
      numbers = given 0 1 0x42040000 ∷ given 0 2 0x40a00000 ∷ given 0 3 0x3f666666 ∷ given 0 6 0xc0400000 ∷ given 0 7 0xc0f00000 ∷ given 0 9 0xbf666666 ∷ given 0 19 0xc0a00000 ∷ given 0 23 0x41700000 ∷ given 0 25 0x43960000 ∷ given 0 26 0x40200000 ∷ given 0 27 0x40200000
          ∷ given 1 1 0x40a00000 ∷ given 1 2 0x42810000 ∷ given 1 5 0x3e99999a ∷ given 1 7 0xc0f00000 ∷ given 1 8 0x3e000000 ∷ given 1 9 0x3f666666 ∷ given 1 20 0x3f666666 ∷ given 1 23 0x40800000 ∷ given 1 24 0x42480000 ∷ given 1 25 0x42810000 ∷ given 1 26 0x3f000000 ∷ given 1 27 0x3e800000
          ∷ given 2 1 0x3f800000 ∷ given 2 2 0x41a00000 ∷ given 2 6 0x40400000 ∷ given 2 7 0x41c80000 ∷ given 2 8 0x41200000 ∷ given 2 9 0xc0000000 ∷ given 2 11 0x41c80000 ∷ given 2 18 0xbf000000 ∷ given 2 19 0xc0200000 ∷ given 2 20 0xc1200000 ∷ given 2 23 0x40800000 ∷ given 2 24 0x42040000 ∷ given 2 25 0x42480000 ∷ given 2 26 0x41f00000 ∷ given 2 27 0x40e00000
          ∷ given 3 3 0x3e000000 ∷ given 3 4 0x40a00000 ∷ given 3 5 0x41200000 ∷ given 3 6 0x41200000 ∷ given 3 7 0xc0000000 ∷ given 3 8 0x41200000 ∷ given 3 9 0xc1a00000 ∷ given 3 18 0xbf000000 ∷ given 3 19 0xc0f00000 ∷ given 3 20 0x3dcccccd ∷ given 3 21 0xc0400000 ∷ given 3 23 0x40200000 ∷ given 3 24 0x40a00000 ∷ given 3 25 0x42a00000 ∷ given 3 26 0x3f800000
          ∷ given 4 1 0x42a00000 ∷ given 4 2 0x3f400000 ∷ given 4 3 0x41200000 ∷ given 4 5 0x3f000000 ∷ given 4 6 0x3f000000 ∷ given 4 7 0x41c80000 ∷ given 4 8 0xc0a00000 ∷ given 4 9 0xbf800000 ∷ given 4 18 0x3f000000 ∷ given 4 19 0xbf800000 ∷ given 4 23 0x41200000 ∷ given 4 25 0x42f00000 ∷ given 4 26 0x42c80000 ∷ given 4 27 0x40200000
          ∷ given 5 1 0x42040000 ∷ given 5 7 0x41200000 ∷ given 5 8 0x41000000 ∷ given 5 9 0x3eaaaaab ∷ given 5 18 0xbf000000 ∷ given 5 21 0xc0a00000 ∷ given 5 23 0x40800000 ∷ given 5 24 0x42c80000 ∷ given 5 25 0x43480000 ∷ given 5 26 0x40a00000 ∷ given 5 27 0x40a00000
          ∷ given 6 0 0x41200000 ∷ given 6 1 0x42a00000 ∷ given 6 2 0x41a00000 ∷ given 6 4 0x42c80000 ∷ given 6 6 0xc0f00000 ∷ given 6 7 0xbf800000 ∷ given 6 8 0x3f666666 ∷ given 6 10 0x41200000 ∷ given 6 20 0xc0f00000 ∷ given 6 24 0x40a00000 ∷ given 6 25 0x42f00000 ∷ given 6 26 0x41700000 ∷ given 6 27 0x40200000
          ∷ given 7 0 0x42f00000 ∷ given 7 1 0x3f666666 ∷ given 7 6 0xc1200000 ∷ given 7 7 0x3f800000 ∷ given 7 8 0x3f000000 ∷ given 7 9 0x41000000 ∷ given 7 18 0x3dcccccd ∷ given 7 19 0xc0400000 ∷ given 7 20 0xc0400000 ∷ given 7 21 0xc0f00000 ∷ given 7 23 0x40800000 ∷ given 7 24 0x41200000 ∷ given 7 25 0x43480000 ∷ [];
      question = record { known = record { width = Some (bits 0x42c80000); height = None }; parent = bits 0x42800000; definiteHeight = false; available = Definite (bits 0x00000000); collapseStart = false; collapseEnd = false };
      told = (1, Through) ∷ at 2 0x41480000 ∷ at 3 0x41200000 ∷ at 4 0x41200000 ∷ (5, Passed) ∷ at 6 0x3f000000 ∷ at 7 0x4269999a ∷ [];
    }

unfoldable pub cases : List Case
cases = first ∷ second ∷ third ∷ fourth ∷ fifth ∷ sixth ∷ seventh ∷ eighth ∷ []

pub all_told : map (λ (c : Case). engine (boxes_on c.words (numbers_of c.numbers (replicate (28 * nodes_in c.words) zero_f)) (root_input c.question))) cases ≡ map (λ (c : Case). c.told) cases
unfolding steps root_input box_t pair_of plain_gap numbers_of first second third fourth fifth sixth seventh eighth cases
all_told = refl
