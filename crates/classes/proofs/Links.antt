-- Each of the four links, on one tree of boxes: six margins that are one class.
use Rattle.std.specs.Prelude.{refl}
use Rattle.std.proofs.Common.{inl, inr}
use Rattle.classes.specs.Margins.{Top, Bottom, back}
use Rattle.classes.specs.Spots.{ClassOf}
use Rattle.classes.specs.Links.{six, fourth, next_sibling}

pub through_both : ClassOf six fourth (inr (inr (inl (inl Top))))
through_both = back (inr (inr (inl (inl Bottom)))) (inr (inr (inl (inl Top)))) next_sibling refl

pub own_end : ClassOf six fourth (inr (inl (inr (inl (inl Bottom)))))
own_end = back (inr (inl (inl Bottom))) (inr (inl (inr (inl (inl Bottom))))) (back (inr (inr (inl (inl Top)))) (inr (inl (inl Bottom))) through_both (tt, tt)) (refl, (tt, tt))
