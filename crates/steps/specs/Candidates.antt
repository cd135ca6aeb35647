-- The candidate list of finished rows.
use Rattle.std.specs.Prelude.{Bool, true, false, cond, List, [], ◌∷◌, ◌++◌, map, ℕ, zero, suc, ◌+◌, Float}
use Rattle.geometry.specs.Floats.{◌⊕◌}
use Rattle.style.specs.declared.Style.{Style}
use Rattle.tree.specs.Tree.{Tree, Forest, node, none, more, count_t}
use Rattle.style.specs.Flow.{flow_of}
use Rattle.steps.specs.Row.{Row, is_laid, is_out}
use Rattle.style.specs.declared.Flow.{Flow}
use Rattle.style.specs.declared.Flow.TheVariants.{Gone, Out, In}
use Rattle.steps.specs.Page.{Site}

pub record Candidate : Type 0 where
  pub node : ℕ
  pub order : ℕ
  pub start : Float
  pub end : Float
  pub line : Float

-- node and order lie in one slice, the rest in another
abbrev pub candidate_words : Candidate → List ℕ
candidate_words c = c.node ∷ c.order ∷ []

abbrev pub candidate_numbers : Candidate → List Float
candidate_numbers c = c.start ∷ c.end ∷ c.line ∷ []

unfoldable pub candidate_of : ℕ → Row → Candidate
candidate_of b r = record { node = b; order = r.order; start = r.place.x; end = r.answer.size.width; line = r.place.y }

-- a place is added: x to start and end, y to line
unfoldable pub moved_by : Row → Candidate → Candidate
moved_by r c =
    record {
      node = c.node;
      order = c.order;
      start = c.start ⊕ r.place.x;
      end = c.end ⊕ r.place.x;
      line = c.line ⊕ r.place.y;
    }

-- what one child adds, given the list of what is below it: if laid, those, moved by its place; itself if out of flow
unfoldable pub candidates_at : ℕ → Row → List Candidate → List Candidate
candidates_at b r below = cond (is_laid r) (map (moved_by r) below) (cond (is_out r) (candidate_of b r ∷ []) [])

-- In preorder; b is the number of the first node. Innermost places are added first.
unfoldable mutual
  pub candidates_t : ℕ → Tree Row → List Candidate
  candidates_t b (node r ks) = candidates_at b r (candidates_f (suc b) ks)

  pub candidates_f : ℕ → Forest Row → List Candidate
  candidates_f b none = []
  candidates_f b (more t ts) = candidates_t b t ++ candidates_f (b + count_t t) ts

-- the page's list: the root's place is not added
unfoldable pub candidates : Tree Row → List Candidate
candidates (node r ks) = candidates_f 1 ks

-- how many records are needed: shown out-of-flow children below no hidden node or other such child
unfoldable mutual
  pub needed_t : Tree Site → ℕ
  needed_t (node l ks) = elim (flow_of l.style) [ Gone ↦ 0 | Out ↦ 1 | In ↦ needed_f ks ]

  pub needed_f : Forest Site → ℕ
  needed_f none = 0
  needed_f (more t ts) = needed_t t + needed_f ts

unfoldable pub needed : Tree Site → ℕ
needed (node l ks) = needed_f ks
