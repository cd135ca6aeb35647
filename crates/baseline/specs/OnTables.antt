-- Both theorems of lent tables: what holds where no style word has bit 16, and where each baseline comes from.
use Rattle.std.specs.Prelude.{◌≡◌, refl, false, List, ℕ, ◌<◌, Float, Option, None}
use Rattle.std.proofs.Common.{sym, ap}
use Rattle.style.specs.Codes.{flag_at, baseline_of}
use Rattle.style.specs.Style.{word_at, measure_at, style_at}
use Rattle.style.specs.declared.Measure.{Measure}
use Rattle.style.specs.declared.Style.{Style}
use Rattle.tree.specs.Tree.{Tree, Forest, node, none, more, map_t, map_f}
use Rattle.steps.specs.Page.{Site, site_at, nodes_in, page_of}
use Rattle.laws.specs.Trees.{AllT, AllF}
use Rattle.laws.specs.Parsed.{all_parse}
use Rattle.baseline.specs.Unlined.{unlined_table}
use Rattle.baseline.specs.Others.{unlined_site}

-- a node whose table has none
abbrev pub NoLine : Site → Type 0
NoLine s = s.style.measure.baseline ≡ None

table_same : (m : Measure) → m.baseline ≡ None → unlined_table m ≡ m
table_same m e = ap (λ (b : Option Float). record { least = m.least; most = m.most; height = m.height; baseline = b }) (sym e)

abbrev style_with : Style → Measure → Style
style_with s m =
    record {
      kind = s.kind;
      content = s.content;
      rtl = s.rtl;
      position = s.position;
      overflow = s.overflow;
      align = s.align;
      safe = s.safe;
      contained = s.contained;
      size = s.size;
      min = s.min;
      max = s.max;
      margin = s.margin;
      padding = s.padding;
      border = s.border;
      inset = s.inset;
      ratio = s.ratio;
      scrollbar = s.scrollbar;
      measure = m;
    }

site_same : (s : Site) → NoLine s → unlined_site s ≡ s
site_same s e = ap (λ (m : Measure). record { node = s.node; style = style_with s.style m; edit = s.edit }) (table_same s.style.measure e)

mutual
  unfolding AllT map_t

  pub page_same : (t : Tree Site) → AllT NoLine t → map_t unlined_site t ≡ t
  page_same (node s ks) h = rw (site_same s h.0, page_same_f ks h.1)

  page_same_f : (ts : Forest Site) → AllF NoLine ts → map_f unlined_site ts ≡ ts
  page_same_f none h = refl
  page_same_f (more t ts) h = rw (page_same t h.0, page_same_f ts h.1)

none_at : (w : ℕ) (x : Float) → flag_at w 16 ≡ false → baseline_of w x ≡ None
unfolding baseline_of
none_at w x e = rw e

style_none : (ws : List ℕ) (i : ℕ) (xs : List Float) (j : ℕ) → flag_at (word_at ws i 1) 16 ≡ false → (style_at ws i xs j).measure.baseline ≡ None
unfolding style_at measure_at
style_none ws i xs j e = none_at (word_at ws i 1) _ e

site_none : (ws : List ℕ) (xs : List Float) (es : List ℕ) (i : ℕ) → flag_at (word_at ws i 1) 16 ≡ false → NoLine (site_at ws xs es 0 i).label
unfolding site_at
site_none ws xs es i e = style_none ws i xs _ e

pub none_page : (ws : List ℕ) (xs : List Float) (es : List ℕ) → 0 < nodes_in ws → ((i : ℕ) → i < nodes_in ws → flag_at (word_at ws i 1) 16 ≡ false) → AllT NoLine (page_of ws xs es)
unfolding page_of
none_page ws xs es p h = all_parse NoLine (site_at ws xs es 0) (nodes_in ws) p (λ i l. site_none ws xs es i (h i l))
