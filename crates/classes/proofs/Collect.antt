-- The classes of a box's two margins, cut to the margins at or below it: collected by recursion, closed under the links, and joined by them.
use Rattle.tree.specs.Tree.{Tree, Forest, node, none, more}
use Rattle.classes.specs.Margins.{Box}
use Rattle.classes.specs.Collect.{LeftF, RightF, TopC, BotC, NoBridgeT, NoBridgeF, ClosedT, ClosedF, top-node, bot-node, left-more, right-more}

mutual
  pub top_closed : (t : Tree Box) → NoBridgeT t → ClosedT t (TopC t)
  top_closed (node a ks) h = top-node a ks h.0 (left_closed ks h.1) (right_closed ks h.1)

  pub bot_closed : (t : Tree Box) → NoBridgeT t → ClosedT t (BotC t)
  bot_closed (node a ks) h = bot-node a ks h.0 (left_closed ks h.1) (right_closed ks h.1)

  pub left_closed : (ts : Forest Box) → NoBridgeF ts → ClosedF ts (LeftF ts)
  left_closed none h = λ m n k. absurd k
  left_closed (more t ts) h = left-more t ts (top_closed t h.0) (left_closed ts h.1)

  pub right_closed : (ts : Forest Box) → NoBridgeF ts → ClosedF ts (RightF ts)
  right_closed none h = λ m n k. absurd k
  right_closed (more t ts) h = right-more t ts (bot_closed t h.0) (right_closed ts h.1)
