-- The lines of a trace, one by one: a key, and values parted by commas, as the page file has them.
use Rattle.lines.specs.declared.FieldNumber.{FieldNumber}
use Rattle.length.specs.declared.AvailableSpace.{AvailableSpace}
use Rattle.std.specs.Prelude.{Bool, true, false, cond, ◌&&◌, List, [], ◌∷◌, ◌++◌, ℕ, eqb, ltb, Option, None, Some, Float}
use Rattle.text.specs.Pieces.{same, past}
use Rattle.text.specs.Values.{value_of, hex_of, number_of}
use Rattle.lines.specs.Lines.{keyed, fielded, field_of, num_text, known_field, avail_text}
use Rattle.day.specs.declared.Event.{Event}
use Rattle.day.specs.declared.Event.TheVariants.{Number, Word, Ask, Relayout, Layout}
use Rattle.day.specs.declared.Ask.TheVariants.{Width, Height, Parent, Available}

-- the keys, as bytes
abbrev pub number= : List ℕ
number= = 110 ∷ 117 ∷ 109 ∷ 98 ∷ 101 ∷ 114 ∷ 61 ∷ []

abbrev pub word= : List ℕ
word= = 119 ∷ 111 ∷ 114 ∷ 100 ∷ 61 ∷ []

abbrev pub ask= : List ℕ
ask= = 97 ∷ 115 ∷ 107 ∷ 61 ∷ []

abbrev pub do= : List ℕ
do= = 100 ∷ 111 ∷ 61 ∷ []

-- the words relayout and layout
abbrev pub relayout : List ℕ
relayout = 114 ∷ 101 ∷ 108 ∷ 97 ∷ 121 ∷ 111 ∷ 117 ∷ 116 ∷ []

abbrev pub layout : List ℕ
layout = 108 ∷ 97 ∷ 121 ∷ 111 ∷ 117 ∷ 116 ∷ []

-- a number of one of n nodes
unfoldable pub number_event : ℕ → Option ℕ → Option FieldNumber → Option Event
number_event n None x = None
number_event n (Some i) None = None
number_event n (Some i) (Some x) = cond (ltb i n) (Some (Number (record { node = record { 0 = i }; field = x.field; value = x.value }))) None

-- number= and a node, then a field and a bit pattern as num= has them
unfoldable pub number_text : ℕ → List ℕ → Option Event
number_text n s = number_event n (value_of 10 0xffff_ffff (field_of s 0)) (num_text (past 44 1 s))

-- a word of one of n nodes; word 0 is not edited
unfoldable pub word_event : ℕ → Option ℕ → Option ℕ → Option ℕ → Option Event
word_event n None k b = None
word_event n (Some i) None b = None
word_event n (Some i) (Some k) None = None
word_event n (Some i) (Some k) (Some b) = cond (ltb i n && ltb 0 k) (Some (Word (record { node = record { 0 = i }; word = k; bits = b }))) None

-- word= and a node, a word up to 3, a bit pattern
unfoldable pub word_text : ℕ → List ℕ → Option Event
word_text n s = fielded 3 s (word_event n (value_of 10 0xffff_ffff (field_of s 0)) (value_of 10 3 (field_of s 1)) (hex_of (field_of s 2))) None

-- the four numbers of the question
unfoldable pub width_event : Option (Option Float) → Option Event
width_event None = None
width_event (Some w) = Some (Ask (Width w))

unfoldable pub height_event : Option (Option Float) → Option Event
height_event None = None
height_event (Some h) = Some (Ask (Height h))

unfoldable pub parent_event : Option Float → Option Event
parent_event None = None
parent_event (Some p) = Some (Ask (Parent p))

unfoldable pub available_event : Option AvailableSpace → Option Event
available_event None = None
available_event (Some a) = Some (Ask (Available a))

-- 0 known width, 1 known height, 2 parent width, 3 available width
unfoldable pub ask_by : ℕ → List ℕ → Option Event
ask_by k s =
    cond (eqb k 0) (width_event (known_field s)) (cond (eqb k 1) (height_event (known_field s)) (cond (eqb k 2) (parent_event (number_of (hex_of s))) (available_event (avail_text s))))

unfoldable pub ask_event : Option ℕ → List ℕ → Option Event
ask_event None s = None
ask_event (Some k) s = ask_by k s

-- ask= and which number, then the number
unfoldable pub ask_text : List ℕ → Option Event
ask_text s = ask_event (value_of 10 3 (field_of s 0)) (past 44 1 s)

-- do= and what
unfoldable pub do_text : List ℕ → Option Event
do_text s = cond (same relayout s) (Some Relayout) (cond (same layout s) (Some Layout) None)

-- one line of a trace whose page has n nodes
unfoldable pub event_line : ℕ → List ℕ → Option Event
event_line n l = keyed number= l (number_text n) (keyed word= l (word_text n) (keyed ask= l ask_text (keyed do= l do_text None)))

unfoldable pub is_event : Option Event → Bool
is_event None = false
is_event (Some e) = true

-- the event of a line, if it is one
unfoldable pub event_of : Option Event → List Event
event_of None = []
event_of (Some e) = e ∷ []

-- the events of some lines
unfoldable pub events_of : ℕ → List (List ℕ) → List Event
events_of n [] = []
events_of n (l ∷ ls) = event_of (event_line n l) ++ events_of n ls
