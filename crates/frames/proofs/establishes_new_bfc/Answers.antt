use Rattle.steps.specs.Context.{new_context}
use Rattle.reader.specs.Reader.{style_by}
use borrow.Author.Rules.{rules}
use Rattle.frames.proofs.establishes_new_bfc.Goals as goal

pub returns-then-is_scroll_container : goal.returns-then-is_scroll_container
unfolding new_context style_by
returns-then-is_scroll_container c = λ first second xs j. rw (← c.overflow_of-o.ensures, ← c.is_scroll_container.ensures, c.if-is_scroll_container.true)

pub returns-then-is_scroll_container-2 : goal.returns-then-is_scroll_container-2
unfolding new_context style_by
returns-then-is_scroll_container-2 c = λ first second xs j. rw (← c.overflow_of-o.ensures, ← c.is_scroll_container-2.ensures, c.if-is_scroll_container-2.true, ← c.is_scroll_container.ensures, c.if-is_scroll_container.false)

pub returns-then-is_align_normal : goal.returns-then-is_align_normal
unfolding new_context style_by
returns-then-is_align_normal c = λ first second xs j. rw (← c.overflow_of-o.ensures, ← c.align_of-align.ensures, ← c.is_align_normal.ensures, c.if-is_align_normal.true, c.flag.ensures, ← c.is_scroll_container-2.ensures, c.if-is_scroll_container-2.false, ← c.is_scroll_container.ensures, c.if-is_scroll_container.false)

pub returns : goal.returns
unfolding new_context style_by
returns c = λ first second xs j. rw (← c.overflow_of-o.ensures, ← c.align_of-align.ensures, ← c.is_align_normal.ensures, c.if-is_align_normal.false, ← c.is_scroll_container-2.ensures, c.if-is_scroll_container-2.false, ← c.is_scroll_container.ensures, c.if-is_scroll_container.false)
