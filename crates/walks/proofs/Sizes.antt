-- The sizes in the words of a table are those of its tree.
use mathlib.Core.Path.{◌≡◌, refl, sym, ap, ◌∙◌}
use mathlib.Core.List.{List, ◌∷◌, map}
use Prim.Native.Nat.{ℕ, suc}
use lib.Ieee.{Float}
use Rattle.style.specs.Style.{word_at}
use Rattle.tree.specs.Tree.{Tree, Forest, node, none, more, count_t, count_f, flat_t, flat_f}
use Rattle.tree.specs.Table.{Entry, from}
use Rattle.tree.proofs.Lists.{map_from, map_append}
use Rattle.steps.specs.Page.{Site, Cell, site_at}
use Rattle.walks.specs.Tables.{site_entry, size_only}

abbrev size : Entry Site → ℕ
size e = e.size

mutual
  unfolding flat_t

  map_entries_t : (t : Tree Cell) → map size (flat_t site_entry t) ≡ flat_t size_only t
  map_entries_t (node l ks) = ap (λ (z : List ℕ). suc (count_f ks) ∷ z) (map_entries_f ks)

  map_entries_f : (ts : Forest Cell) → map size (flat_f site_entry ts) ≡ flat_f size_only ts
  map_entries_f none = refl
  map_entries_f (more t ts) = map_append size (flat_t site_entry t) (flat_f site_entry ts) ∙ rw (map_entries_t t, map_entries_f ts)

module _ (ws : List ℕ) (xs : List Float) (es : List ℕ) (b : ℕ) where
  pub sizes-ofT : (t : Tree Cell) → from (site_at ws xs es b) 0 (count_t t) ≡ flat_t site_entry t → from (λ n. word_at ws n 0) 0 (count_t t) ≡ flat_t size_only t
  unfolding site_at
  sizes-ofT t e = sym (map_from size (site_at ws xs es b) 0 (count_t t)) ∙ ap (map size) e ∙ map_entries_t t

  pub sizes-ofF : (ts : Forest Cell) → from (site_at ws xs es b) 0 (count_f ts) ≡ flat_f site_entry ts → from (λ n. word_at ws n 0) 0 (count_f ts) ≡ flat_f size_only ts
  unfolding site_at
  sizes-ofF ts e = sym (map_from size (site_at ws xs es b) 0 (count_f ts)) ∙ ap (map size) e ∙ map_entries_f ts
