-- Candidate lists of both engines as the slices that a call leaves. Assumes nothing.
use Rattle.std.specs.Prelude.{◌≡◌, refl, List, [], ℕ, suc, length}
use Rattle.std.proofs.Common.{ap}
use Rattle.steps.specs.Candidates.{Candidate, candidate_words, candidate_numbers}
use Rattle.steps.specs.Results.{listed}
use Rattle.integers.specs.Candidates.{CandidateZ}
use Rattle.integers.specs.Results.{candidate_words_z, candidate_numbers_z}
use Rattle.exact.specs.Widths.{Holds}
use Rattle.exact.specs.Lists.{RelL, rel_join}
use Rattle.exact.specs.Candidates.{CandIs, CandsAre, no_cands, more_cands}

pub same_count : {s l : ℕ} {a : List Candidate} {b : List CandidateZ} → CandsAre s l a b → length a ≡ length b
same_count no_cands = refl
same_count (more_cands p q) = ap suc (same_count q)

pub same_words : {s l : ℕ} {a : List Candidate} {b : List CandidateZ} → CandsAre s l a b → listed candidate_words a ≡ listed candidate_words_z b
unfolding listed
same_words no_cands = refl
same_words (more_cands p q) = rw (p.node, p.order, same_words q)

three_numbers : {c : Candidate} {z : CandidateZ} → CandIs 16777215 16777215 c z → RelL Holds (candidate_numbers c) (candidate_numbers_z z)
unfolding RelL
three_numbers p = (p.start, (p.end, (p.line, tt)))

none_listed : RelL Holds [] []
unfolding RelL
none_listed = tt

pub same_numbers : (a : List Candidate) (b : List CandidateZ) → CandsAre 16777215 16777215 a b → RelL Holds (listed candidate_numbers a) (listed candidate_numbers_z b)
unfolding listed
same_numbers _ _ no_cands = none_listed
same_numbers _ _ (more_cands {c} {z} {a} {b} p q) = rel_join Holds (candidate_numbers c) (listed candidate_numbers a) (candidate_numbers_z z) (listed candidate_numbers_z b) (three_numbers p) (same_numbers a b q)
