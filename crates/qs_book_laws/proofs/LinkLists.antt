-- A test of what was sent on links says the same after one link's value was put in or changed, as the list stays in order.
use Rattle.qs_book_laws.proofs.Words.{◌≡◌, ℕ, ◌≤◌, ◌||◌, Bool, true, false, List, [], ◌∷◌, Option, Some, None, refl, sym, ap, subst, ◌∙◌, arith, cond, ⊤, list_any, lookup, set_value, is_at, insert_entry, match_ordering, Ordering, Less, Equal, Greater, NodeNo, link_cmp, changed_value, Link, Sent, or_left, or_right, or-false}
use Rattle.std.specs.Ordering.{ordering_reverse}
use Rattle.qs_book_machine.proofs.Present.{link_total}
use Rattle.qs_book_laws.proofs.Reaching.{link_exact}
use Rattle.qs_book_laws.proofs.Takes.{some_same}
use Rattle.qs_base_lemmas.proofs.Tests.{le_le}

abbrev pub Sents : Type 0
Sents = List (Link × Sent)

-- ---- in order

abbrev pub Above : Link → Sents → Type 0
Above l [] = ⊤
Above l (e ∷ es) = (link_cmp l e.0 ≡ Less) × Above l es

abbrev pub Rising : Sents → Type 0
Rising [] = ⊤
Rising (e ∷ es) = Above e.0 es × Rising es

above_less : (k l : Link) (es : Sents) → link_cmp k l ≡ Less → Above l es → Above k es
above_less k l [] h a = tt
above_less k l (e ∷ es) h a = (link_total.trans k l e.0 h a.0, above_less k l es h a.1)

above_put : (l k : Link) (v : Sent) (es : Sents) → link_cmp l k ≡ Less → Above l es → Above l (insert_entry link_cmp es k v)
above_put l k v [] h a = (h, tt)
above_put l k v (e ∷ es) h a = by (link_cmp k e.0) (above_put l k v es h a.1)
  where
    by : (o : Ordering) → Above l (insert_entry link_cmp es k v) → Above l (match_ordering o ((k, v) ∷ e ∷ es) ((e.0, v) ∷ es) (e ∷ insert_entry link_cmp es k v))
    by Less more = (h, a)
    by Equal more = (a.0, a.1)
    by Greater more = (a.0, more)

pub rising_put : (k : Link) (v : Sent) (es : Sents) → Rising es → Rising (insert_entry link_cmp es k v)
rising_put k v [] r = (tt, tt)
rising_put k v (e ∷ es) r = by (link_cmp k e.0) refl (rising_put k v es r.1)
  where
    by : (o : Ordering) → link_cmp k e.0 ≡ o → Rising (insert_entry link_cmp es k v) → Rising (match_ordering o ((k, v) ∷ e ∷ es) ((e.0, v) ∷ es) (e ∷ insert_entry link_cmp es k v))
    by Less is more = ((is, above_less k e.0 es is r.0), r)
    by Equal is more = (r.0, r.1)
    by Greater is more = (above_put e.0 k v es (link_total.antisymm e.0 k ∙ ap ordering_reverse is) r.0, more)

above_set : (l : Link) (test : Link → Bool) (w : Sent) (es : Sents) → Above l es → Above l (set_value test es w)
above_set l test w [] a = tt
above_set l test w (e ∷ es) a = by (test e.0) (above_set l test w es a.1)
  where
    by : (b : Bool) → Above l (set_value test es w) → Above l (cond b ((e.0, w) ∷ es) (e ∷ set_value test es w))
    by true more = (a.0, a.1)
    by false more = (a.0, more)

rising_set : (test : Link → Bool) (w : Sent) (es : Sents) → Rising es → Rising (set_value test es w)
rising_set test w [] r = tt
rising_set test w (e ∷ es) r = by (test e.0) (rising_set test w es r.1)
  where
    by : (b : Bool) → Rising (set_value test es w) → Rising (cond b ((e.0, w) ∷ es) (e ∷ set_value test es w))
    by true more = (r.0, r.1)
    by false more = (above_set e.0 test w es r.0, more)

pub rising_changed : (test : Link → Bool) (f : Sent → Sent) (es : Sents) → Rising es → Rising (changed_value test f es)
rising_changed test f es r = by (lookup test es)
  where
    by : (o : Option Sent) → Rising (elim o [ None ↦ es | Some v ↦ set_value test es (f v) ])
    by None = r
    by (Some v) = rising_set test (f v) es r

-- ---- each value fits the incarnation of its node, and counts no more than was sent

abbrev pub Fits : (NodeNo → ℕ) → Link → Sent → Type 0
Fits inc k s = (s.inc ≤ inc k.from) × (s.counted ≤ s.count)

abbrev pub Fit : (NodeNo → ℕ) → Sents → Type 0
Fit inc [] = ⊤
Fit inc (e ∷ es) = Fits inc e.0 e.1 × Fit inc es

pub fit_later : (inc new : NodeNo → ℕ) → ((n : NodeNo) → inc n ≤ new n) → (es : Sents) → Fit inc es → Fit new es
fit_later inc new up [] f = tt
fit_later inc new up (e ∷ es) f = ((le_le e.1.inc (inc e.0.from) (new e.0.from) f.0.0 (up e.0.from), f.0.1), fit_later inc new up es f.1)

pub fit_put : (inc : NodeNo → ℕ) (k : Link) (v : Sent) (es : Sents) → Fits inc k v → Fit inc es → Fit inc (insert_entry link_cmp es k v)
fit_put inc k v [] h f = (h, tt)
fit_put inc k v (e ∷ es) h f = by (link_cmp k e.0) refl (fit_put inc k v es h f.1)
  where
    by : (o : Ordering) → link_cmp k e.0 ≡ o → Fit inc (insert_entry link_cmp es k v) → Fit inc (match_ordering o ((k, v) ∷ e ∷ es) ((e.0, v) ∷ es) (e ∷ insert_entry link_cmp es k v))
    by Less is more = (h, f)
    by Equal is more = (subst (λ (l : Link). Fits inc l v) (link_exact k e.0 (rw is refl)) h, f.1)
    by Greater is more = (f.0, more)

fit_set : (inc : NodeNo → ℕ) (test : Link → Bool) (v w : Sent) → w.inc ≡ v.inc → w.counted ≤ w.count → (es : Sents) → lookup test es ≡ Some v → Fit inc es → Fit inc (set_value test es w)
fit_set inc test v w same below [] found f = tt
fit_set inc test v w same below (e ∷ es) found f = by (test e.0) refl found (fit_set inc test v w same below es)
  where
    as_before : (a b c : ℕ) → b ≡ a → a ≤ c → b ≤ c
    as_before a b c e h = omega arith

    by : (b : Bool) → test e.0 ≡ b → cond b (Some e.1) (lookup test es) ≡ Some v → (lookup test es ≡ Some v → Fit inc es → Fit inc (set_value test es w)) → Fit inc (cond b ((e.0, w) ∷ es) (e ∷ set_value test es w))
    by true is at more = ((as_before e.1.inc w.inc (inc e.0.from) (same ∙ sym (ap (λ (s : Sent). s.inc) (some_same e.1 v at))) f.0.0, below), f.1)
    by false is at more = (f.0, more at f.1)

pub fit_changed : (inc : NodeNo → ℕ) (test : Link → Bool) (g : Sent → Sent) (es : Sents) → ((v : Sent) → lookup test es ≡ Some v → ((g v).inc ≡ v.inc) × ((g v).counted ≤ (g v).count)) → Fit inc es → Fit inc (changed_value test g es)
fit_changed inc test g es keeps f = by (lookup test es) refl
  where
    by : (o : Option Sent) → lookup test es ≡ o → Fit inc (elim o [ None ↦ es | Some v ↦ set_value test es (g v) ])
    by None is = f
    by (Some v) is = let k : ((g v).inc ≡ v.inc) × ((g v).counted ≤ (g v).count) = keeps v is in fit_set inc test v (g v) k.0 k.1 es is f

pub fit_found : (inc : NodeNo → ℕ) (l : Link) (v : Sent) (es : Sents) → lookup (is_at (link_cmp l)) es ≡ Some v → Fit inc es → Fits inc l v
fit_found inc l v [] found f = absurd (cc found)
fit_found inc l v (e ∷ es) found f = by (is_at (link_cmp l) e.0) refl found (fit_found inc l v es)
  where
    by : (b : Bool) → is_at (link_cmp l) e.0 ≡ b → cond b (Some e.1) (lookup (is_at (link_cmp l)) es) ≡ Some v → (lookup (is_at (link_cmp l)) es ≡ Some v → Fit inc es → Fits inc l v) → Fits inc l v
    by true is at more = subst (λ (k : Link). Fits inc k v) (sym (link_exact l e.0 is)) (subst (λ (s : Sent). Fits inc e.0 s) (some_same e.1 v at) f.0)
    by false is at more = more at f.1

-- ---- a test before, and the test after

or_assoc : (a b c : Bool) → (a || (b || c)) ≡ ((a || b) || c)
or_assoc true b c = refl
or_assoc false b c = refl

or_end : (a x b : Bool) → ((a || x) || b) ≡ ((a || b) || x)
or_end true x b = refl
or_end false true true = refl
or_end false true false = refl
or_end false false true = refl
or_end false false false = refl

absorbs : (o x a : Bool) → (o ≡ true → a ≡ true) → ((o || x) || a) ≡ (a || x)
absorbs true x true f = refl
absorbs true x false f = absurd (cc (f refl))
absorbs false true true f = refl
absorbs false true false f = refl
absorbs false false true f = refl
absorbs false false false f = refl

module _ (inc : NodeNo → ℕ) (q r : Link × Sent → Bool) where
  pub any_same : (es : Sents) → Fit inc es → ((k : Link) (s : Sent) → Fits inc k s → r (k, s) ≡ q (k, s)) → list_any r es ≡ list_any q es
  any_same [] f same = refl
  any_same (e ∷ es) f same = ap (λ (b : Bool). b || list_any r es) (same e.0 e.1 f.0) ∙ ap (λ (b : Bool). q e || b) (any_same es f.1 same)

  module _ (l : Link) where
    abbrev pub found_of : Sents → Bool
    found_of es = elim (lookup (is_at (link_cmp l)) es) [ None ↦ false | Some s ↦ q (l, s) ]

    found_any : (es : Sents) → found_of es ≡ true → list_any q es ≡ true
    found_any [] h = absurd (cc h)
    found_any (e ∷ es) h = by (is_at (link_cmp l) e.0) refl h (found_any es)
      where
        by : (b : Bool) → is_at (link_cmp l) e.0 ≡ b → (elim (cond b (Some e.1) (lookup (is_at (link_cmp l)) es)) [ None ↦ false | Some s ↦ q (l, s) ]) ≡ true → (found_of es ≡ true → list_any q es ≡ true) → (q e || list_any q es) ≡ true
        by true is k more = or_left (q e) (list_any q es) (subst (λ (x : Link). q (x, e.1) ≡ true) (link_exact l e.0 is) k)
        by false is k more = or_right (q e) (list_any q es) (more k)

    pub any_put : (es : Sents) (v : Sent) (x : Bool) → Fit inc es → ((k : Link) (s : Sent) → Fits inc k s → r (k, s) ≡ q (k, s)) → r (l, v) ≡ (found_of es || x) → list_any r (insert_entry link_cmp es l v) ≡ (list_any q es || x)
    any_put [] v x f same new = or-false (r (l, v)) ∙ new
    any_put (e ∷ es) v x f same new = by (link_cmp l e.0) refl (any_put es v x f.1 same)
      where
        all : list_any r (e ∷ es) ≡ list_any q (e ∷ es)
        all = any_same (e ∷ es) f same

        equal : link_cmp l e.0 ≡ Equal → r (e.0, v) ≡ (q e || x)
        equal is =
            subst (λ (k : Link). r (k, v) ≡ (q (k, e.1) || x)) (link_exact l e.0 (rw is refl))
            (new ∙ ap (λ (b : Bool). (elim (cond b (Some e.1) (lookup (is_at (link_cmp l)) es)) as (λ o. Bool) [ None ↦ false | Some s ↦ q (l, s) ]) || x) (at is))
          where
            at : link_cmp l e.0 ≡ Equal → is_at (link_cmp l) e.0 ≡ true
            at h = rw h refl

        past : link_cmp l e.0 ≡ Greater → r (l, v) ≡ (found_of es || x)
        past is = new ∙ ap (λ (b : Bool). (elim (cond b (Some e.1) (lookup (is_at (link_cmp l)) es)) as (λ o. Bool) [ None ↦ false | Some s ↦ q (l, s) ]) || x) (at is)
          where
            at : link_cmp l e.0 ≡ Greater → is_at (link_cmp l) e.0 ≡ false
            at h = rw h refl

        by : (o : Ordering) → link_cmp l e.0 ≡ o → (r (l, v) ≡ (found_of es || x) → list_any r (insert_entry link_cmp es l v) ≡ (list_any q es || x))
            → list_any r (match_ordering o ((l, v) ∷ e ∷ es) ((e.0, v) ∷ es) (e ∷ insert_entry link_cmp es l v)) ≡ (list_any q (e ∷ es) || x)
        by Less is more =
            ap (λ (b : Bool). b || list_any r (e ∷ es)) new
            ∙ (ap (λ (b : Bool). (found_of (e ∷ es) || x) || b) all ∙ absorbs (found_of (e ∷ es)) x (list_any q (e ∷ es)) (found_any (e ∷ es)))
        by Equal is more =
            ap (λ (b : Bool). b || list_any r es) (equal is)
            ∙ (ap (λ (b : Bool). (q e || x) || b) (any_same es f.1 same) ∙ or_end (q e) x (list_any q es))
        by Greater is more = ap (λ (b : Bool). b || list_any r (insert_entry link_cmp es l v)) (same e.0 e.1 f.0) ∙ (ap (λ (b : Bool). q e || b) (more (past is)) ∙ or_assoc (q e) (list_any q es) x)

    -- a change at the link; the test says the same of every other
    module _ (same : (k : Link) (s : Sent) → is_at (link_cmp l) k ≡ false → Fits inc k s → r (k, s) ≡ q (k, s)) where
      none_there : (es : Sents) → Above l es → Fit inc es → list_any r es ≡ list_any q es
      none_there [] a f = refl
      none_there (e ∷ es) a f = ap (λ (b : Bool). b || list_any r es) (same e.0 e.1 (at a.0) f.0) ∙ ap (λ (b : Bool). q e || b) (none_there es a.1 f.1)
        where
          at : link_cmp l e.0 ≡ Less → is_at (link_cmp l) e.0 ≡ false
          at h = rw h refl

      absent : (es : Sents) → lookup (is_at (link_cmp l)) es ≡ None → Fit inc es → list_any r es ≡ list_any q es
      absent [] none f = refl
      absent (e ∷ es) none f = by (is_at (link_cmp l) e.0) refl none (absent es)
        where
          by : (b : Bool) → is_at (link_cmp l) e.0 ≡ b → cond b (Some e.1) (lookup (is_at (link_cmp l)) es) ≡ None → (lookup (is_at (link_cmp l)) es ≡ None → Fit inc es → list_any r es ≡ list_any q es) → (r e || list_any r es) ≡ (q e || list_any q es)
          by true is at more = absurd (cc at)
          by false is at more = ap (λ (b : Bool). b || list_any r es) (same e.0 e.1 is f.0) ∙ ap (λ (b : Bool). q e || b) (more at f.1)

      set_there : (es : Sents) (v w : Sent) → Rising es → Fit inc es → lookup (is_at (link_cmp l)) es ≡ Some v → r (l, w) ≡ q (l, v) → list_any r (set_value (is_at (link_cmp l)) es w) ≡ list_any q es
      set_there [] v w up f found own = refl
      set_there (e ∷ es) v w up f found own = by (is_at (link_cmp l) e.0) refl found (set_there es v w up.1 f.1)
        where
          by : (b : Bool) → is_at (link_cmp l) e.0 ≡ b → cond b (Some e.1) (lookup (is_at (link_cmp l)) es) ≡ Some v
              → (lookup (is_at (link_cmp l)) es ≡ Some v → r (l, w) ≡ q (l, v) → list_any r (set_value (is_at (link_cmp l)) es w) ≡ list_any q es)
              → list_any r (cond b ((e.0, w) ∷ es) (e ∷ set_value (is_at (link_cmp l)) es w)) ≡ (q e || list_any q es)
          by true is at more =
              let to : l ≡ e.0 = link_exact l e.0 is in
              ap (λ (b : Bool). b || list_any r es) (subst (λ (k : Link). r (k, w) ≡ q (k, e.1)) to (own ∙ ap (λ (s : Sent). q (l, s)) (sym (some_same e.1 v at))))
              ∙ ap (λ (b : Bool). q e || b) (none_there es (subst (λ (k : Link). Above k es) (sym to) up.0) f.1)
          by false is at more = ap (λ (b : Bool). b || list_any r (set_value (is_at (link_cmp l)) es w)) (same e.0 e.1 is f.0) ∙ ap (λ (b : Bool). q e || b) (more at own)

      pub any_changed : (g : Sent → Sent) (es : Sents) → Rising es → Fit inc es → ((v : Sent) → lookup (is_at (link_cmp l)) es ≡ Some v → r (l, g v) ≡ q (l, v)) → list_any r (changed_value (is_at (link_cmp l)) g es) ≡ list_any q es
      any_changed g es up f own = by (lookup (is_at (link_cmp l)) es) refl
        where
          by : (o : Option Sent) → lookup (is_at (link_cmp l)) es ≡ o → list_any r (elim o [ None ↦ es | Some v ↦ set_value (is_at (link_cmp l)) es (g v) ]) ≡ list_any q es
          by None is = absent es is f
          by (Some v) is = set_there es v (g v) up f is (own v is)
