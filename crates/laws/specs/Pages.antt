-- One tree holds what a relayout is given: the page as it is and as it was, the old rows, the edit marks.
use Rattle.std.specs.Prelude.{◌≡◌, Bool, true, false, ℕ}
use Rattle.style.specs.declared.Style.{Style}
use Rattle.tree.specs.Tree.{Tree, Forest, node, none, more}
use Rattle.style.specs.Flow.{is_leaf}
use Rattle.steps.specs.Row.{Row}
use Rattle.steps.specs.Page.{Site, Cell}

pub record Both : Type 0 where
  pub node : ℕ
  pub now : Style
  pub was : Style
  pub old : Row
  pub edit : Bool

abbrev pub site_by : ℕ → Style → Site
site_by i s = record { node = i; style = s; edit = false }

-- the page as it was, as it is, its old rows, and what the relayout is lent
abbrev pub was_site : Both → Site
was_site l = site_by l.node l.was

abbrev pub now_site : Both → Site
now_site l = site_by l.node l.now

abbrev pub old_of : Both → Row
old_of l = l.old

abbrev pub again : Both → Cell
again l = record { site = record { node = l.node; style = l.now; edit = l.edit }; old = l.old }

-- the edit list names every node that differs
abbrev pub Honest : Both → Type 0
Honest l = l.edit ≡ false → l.was ≡ l.now

-- leaves have no children: refusal 2 sees to that
unfoldable mutual
  pub LeavesT : Tree Site → Type 0
  LeavesT (node s ks) = (is_leaf s.style.kind ≡ true → ks ≡ none) × LeavesF ks

  pub LeavesF : Forest Site → Type 0
  LeavesF none = Unit {0}
  LeavesF (more t ts) = LeavesT t × LeavesF ts
