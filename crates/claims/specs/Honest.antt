-- Small facts that keep the definitions honest: how long the lists are, and what the rows of the root, of hidden and of out-of-flow children hold.
use Rattle.std.specs.Prelude.{◌≡◌, refl, true, [], ◌∷◌, ℕ, ◌*◌, length, replicate, Float}
use Rattle.std.proofs.Common.{sym, ap, ◌∙◌}
use Rattle.geometry.specs.Geometry.{zero_f}
use Rattle.margin.specs.Margin.{no_margins}
use Rattle.tree.specs.Tree.{Tree, Forest, node, more, count_t, root_t, on_root}
use Rattle.tree.proofs.Laws.{length-flatT, count_map_t}
use Rattle.style.specs.Flow.{flow_of}
use Rattle.steps.specs.Row.{Row, row_numbers, row_words, is_laid, bare, hidden_row, aside_row, laid_row}
use Rattle.steps.specs.Page.{Site, Cell, Node}
use Rattle.steps.specs.Probe.{width_pass}
use Rattle.steps.specs.Kept.{zeros_t}
use Rattle.steps.specs.Layout.{Stacked, lay_t, lay_f, relaid, fresh, skip}
use Rattle.steps.specs.Stack.{past_hidden}
use Rattle.steps.specs.Results.{rows_out, marks_out}
use Rattle.style.specs.declared.Flow.TheVariants.{Gone}
use Rattle.steps.specs.declared.LayoutInput.{LayoutInput}
use Rattle.steps.specs.declared.Frame.{Frame}
use Rattle.steps.specs.declared.Cursor.{Cursor}
use Rattle.steps.proofs.Shape.{mute}
use Rattle.steps.proofs.Clauses.{style_t, lay_f_gone}
use Rattle.laws.specs.Shape.{fresh_shape}
use Rattle.laws.specs.Along.{root_row, root_laid}

fresh_count : (t : Tree Site) (q : LayoutInput) → count_t (fresh t q).rows ≡ count_t t
fresh_count t q = sym (count_map_t mute (fresh t q).rows) ∙ ap count_t (fresh_shape t q) ∙ count_map_t mute t

-- sixteen numbers and two words a node
pub sixteen_numbers : (t : Tree Site) (q : LayoutInput) → length (rows_out (fresh t q).rows) ≡ 16 * count_t t
unfolding rows_out
sixteen_numbers t q = length-flatT (λ _ (r : Row). row_numbers r) 16 (λ _ _. refl) (fresh t q).rows ∙ ap (λ (n : ℕ). 16 * n) (fresh_count t q)

pub two_words : (t : Tree Site) (q : LayoutInput) → length (marks_out (fresh t q).rows) ≡ 2 * count_t t
unfolding marks_out
two_words t q = length-flatT (λ _ (r : Row). row_words r) 2 (λ _ _. refl) (fresh t q).rows ∙ ap (λ (n : ℕ). 2 * n) (fresh_count t q)

-- the root is laid, at 0, 0
pub record AtOrigin (r : Row) : Type 0 where
  pub laid : is_laid r ≡ true
  pub x_is : r.place.x ≡ zero_f
  pub y_is : r.place.y ≡ zero_f

origin_t : (t : Tree Node) (q : LayoutInput) (found : Float) → AtOrigin (root_t (lay_t t q found).rows)
unfolding laid_row
origin_t (node n ks) q found =
    let e = root_row n ks q found in
    record { laid = root_laid (node n ks) q found; x_is = ap (λ (r : Row). r.place.x) e; y_is = ap (λ (r : Row). r.place.y) e }

pub root_at_origin : (t : Tree Cell) (q : LayoutInput) → AtOrigin (root_t (relaid t q).rows)
unfolding relaid
root_at_origin t q = origin_t (width_pass t q).nodes q (width_pass t q).found

-- a hidden child: its order, and zero in every other word of its row and of those below it
pub hidden_child : (t : Tree Node) (ts : Forest Node) (f : Frame) (c : Cursor) → flow_of (style_t t) ≡ Gone → (lay_f (more t ts) f c).rows ≡ more (on_root (λ _. hidden_row c.count) (zeros_t t)) (lay_f ts f (past_hidden c)).rows
unfolding skip
hidden_child t ts f c e = ap (λ (s : Stacked). s.rows) (lay_f_gone t ts f c e)

pub hidden_words : (n : ℕ) → (row_numbers (hidden_row n) ≡ replicate 16 zero_f) × (row_words (hidden_row n) ≡ n ∷ 0 ∷ [])
unfolding hidden_row bare no_margins
hidden_words n = (refl, refl)

-- an out-of-flow child: five words
pub five_words : (start line end : Float) (n : ℕ) → (row_numbers (aside_row start line end n) ≡ start ∷ line ∷ end ∷ replicate 13 zero_f) × (row_words (aside_row start line end n) ≡ n ∷ 4 ∷ [])
unfolding aside_row bare no_margins
five_words start line end n = (refl, refl)
