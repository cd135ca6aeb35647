-- T and B are the pairs of what is collected.
use Rattle.tree.specs.Tree.{Tree, Forest, node, none, more}
use Rattle.classes.specs.Margins.{Box}
use Rattle.classes.specs.Pairs.{Fine, FineF, up_fine, dn_fine}

mutual
  pub fine_t : (t : Tree Box) → Fine t
  fine_t (node a ks) = (up_fine a ks (fine_f ks), dn_fine a ks (fine_f ks))

  pub fine_f : (ts : Forest Box) → FineF ts
  fine_f none = tt
  fine_f (more t ts) = (fine_t t, fine_f ts)
