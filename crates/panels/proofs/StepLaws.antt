-- What the event's own panel and the other's list are left with, put together. Assumes nothing.
use mathlib.Core.Path.{◌≡◌, sym, ◌∙◌, ap}
use mathlib.Core.List.{List}
use Prim.Native.Nat.{ℕ}
use lib.Ieee.{Float}
use Rattle.sheet.specs.Sheet.{sheet}
use Rattle.day.specs.Day.{Day, Outcome, left, event_result, EventReplied}
use Rattle.day.specs.declared.Event.{Event}
use Rattle.day.specs.declared.Turn.{Turn}
use Rattle.panels.specs.Panels.{Both, seen, listed, panel_left, panel_result, PanelReplied}
use Rattle.panels.specs.Alone.{table, one_table}

abbrev build : Outcome → List ℕ × List Float → List ℕ × ℕ → Both
build u t l = record { own = u; other = sheet t.0 t.1 l.0 l.1 }

-- the outcome of the day, and what the other's list takes
both : (e : Event) (d : Day) (l : List ℕ) (c : ℕ) (t : Turn) (ws : List ℕ) (xs rs : List Float) (ms cw : List ℕ) (cx : List Float) (k l' : List ℕ) (c' : ℕ)
    → left t ws xs rs ms cw cx k ≡ event_result e d → (l', c') ≡ listed (seen e (sheet d.page.words d.page.numbers l c))
    → panel_left (record { answer = t.answer; state = t.state; other = c' }) ws xs rs ms cw cx k l' ≡ panel_result e d (sheet d.page.words d.page.numbers l c)
unfolding panel_result
both e d l c t ws xs rs ms cw cx k l' c' h g =
    ap (λ (u : Outcome). build u (table u.after.page) (l', c')) h
    ∙ ap (build (event_result e d) (table (event_result e d).after.page)) g
    ∙ ap (λ (p : List ℕ × List Float). build (event_result e d) p (listed (seen e (sheet d.page.words d.page.numbers l c)))) (sym (one_table e d l c))

-- with the answer's number and place
pub stepped : (e : Event) (d : Day) (l : List ℕ) (c : ℕ) (t : Turn) (ws : List ℕ) (xs rs : List Float) (ms cw : List ℕ) (cx : List Float) (k l' : List ℕ) (c' : ℕ)
    → EventReplied (event_result e d) t ws xs rs ms cw cx k → (l', c') ≡ listed (seen e (sheet d.page.words d.page.numbers l c))
    → PanelReplied (panel_result e d (sheet d.page.words d.page.numbers l c)) (record { answer = t.answer; state = t.state; other = c' }) ws xs rs ms cw cx k l'
unfolding panel_result
stepped e d l c t ws xs rs ms cw cx k l' c' h g = record { left_is = both e d l c t ws xs rs ms cw cx k l' c' h.left_is g; paper_is = h.paper_is }
