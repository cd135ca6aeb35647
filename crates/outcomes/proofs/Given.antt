-- What each of the nine answers is given for, from what the tests are given for, the finished rows and the count of candidates.
use Rattle.steps.specs.declared.Refusal.TheVariants.{Lengths, Tree, Codes, Numbers, Room, Edits, NotLaid, TooLarge}
use Rattle.steps.specs.declared.Refusal.{Refusal}
use Rattle.tree.specs.declared.NodeId.{NodeId}
use Rattle.std.specs.Prelude.{◌≡◌, List, ℕ, length, Float, Option, None, Some, Result, Ok, Err, ⊤}
use Rattle.std.proofs.Math.Path.{refl}
use Rattle.std.proofs.Common.{sym, ap, ◌∙◌, subst}
use Rattle.tree.specs.Tree as tree
use Rattle.steps.specs.Scan.{lowest}
use Rattle.steps.specs.Row.{Row}
use Rattle.steps.specs.Candidates.{candidates}
use Rattle.steps.specs.Noes.{bad_row}
use Rattle.steps.specs.Results.{rows_out, replied, tested}
use Rattle.tables.proofs.ScanLaws.{lowest-at, at-lowest, lowest-nowhere, nowhere-lowest}
use Rattle.tables.proofs.Exactly.{Exactly}
use Rattle.outcomes.specs.Given.{GivenBy, Never, answer_of, reply-answer}

module _ (u : Result ⊤ Refusal) (D : Result ⊤ Refusal → Type 0) (exact : (v : Result ⊤ Refusal) → Exactly (u ≡ v) (D v)) (never : Never D) (rows : List Float) (n count : ℕ) where
  refused : (a : Refusal) → D (Err a) → GivenBy D rows n count (Err a)
  refused (TooLarge i) d = absurd (never.large i d)
  refused Lengths d = d
  refused (Tree i) d = d
  refused (Codes i) d = d
  refused (Numbers k) d = d
  refused Room d = d
  refused (Edits k) d = d
  refused NotLaid d = d

  found : (f : Option NodeId) → lowest (bad_row rows) n ≡ f → D (Ok tt) → GivenBy D rows n count (answer_of (Ok tt) f count)
  found None e d = (d, lowest-nowhere (bad_row rows) n e, refl)
  found (Some i) e d = (d, lowest-at (bad_row rows) n i.0 e)

  holds_by : (v : Result ⊤ Refusal) → u ≡ v → GivenBy D rows n count (answer_of v (lowest (bad_row rows) n) count)
  holds_by (Ok _) e = found (lowest (bad_row rows) n) refl ((exact (Ok tt)).only e)
  holds_by (Err a) e = refused a ((exact (Err a)).only e)

  passes : (f : Option NodeId) → D (Ok tt) → lowest (bad_row rows) n ≡ f → answer_of u (lowest (bad_row rows) n) count ≡ answer_of (Ok tt) f count
  passes f d e = rw ((exact (Ok tt)).given d, e)

  gives : (b : Result ℕ Refusal) → GivenBy D rows n count b → answer_of u (lowest (bad_row rows) n) count ≡ b
  gives (Ok k) (d, s, e) = passes None d (nowhere-lowest (bad_row rows) n s) ∙ ap Ok (sym e)
  gives (Err (TooLarge i)) (d, l) = passes (Some i) d (at-lowest (bad_row rows) n i.0 l)
  gives (Err Lengths) d = rw ((exact (Err Lengths)).given d)
  gives (Err (Tree i)) d = rw ((exact (Err (Tree i))).given d)
  gives (Err (Codes i)) d = rw ((exact (Err (Codes i))).given d)
  gives (Err (Numbers k)) d = rw ((exact (Err (Numbers k))).given d)
  gives (Err Room) d = rw ((exact (Err Room)).given d)
  gives (Err (Edits k)) d = rw ((exact (Err (Edits k))).given d)
  gives (Err NotLaid) d = rw ((exact (Err NotLaid)).given d)

  -- each answer exactly if it is due
  pub given-exactly : (b : Result ℕ Refusal) → Exactly (answer_of u (lowest (bad_row rows) n) count ≡ b) (GivenBy D rows n count b)
  given-exactly b = record { only = λ e. subst (GivenBy D rows n count) e (holds_by u refl); given = gives b }

-- the same of an answer that is that of a reply
pub seen_exactly : (u : Result ⊤ Refusal) (D : Result ⊤ Refusal → Type 0) → ((v : Result ⊤ Refusal) → Exactly (u ≡ v) (D v)) → Never D → (n : ℕ) (t : tree.Tree Row) (rs : List Float) (ms cw : List ℕ) (cx : List Float) (a : Result ℕ Refusal)
    → a ≡ (tested u (replied n t rs ms cw cx) rs ms cw cx).answer → (b : Result ℕ Refusal) → Exactly (a ≡ b) (GivenBy D (rows_out t) n (length (candidates t)) b)
seen_exactly u D exact never n t rs ms cw cx a e b =
    let x = given-exactly u D exact never (rows_out t) n (length (candidates t)) b in
    let r = e ∙ reply-answer n t rs ms cw cx u in
    record { only = λ p. x.only (sym r ∙ p); given = λ g. r ∙ x.given g }
