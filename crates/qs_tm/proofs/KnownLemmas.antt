-- All to which something may be due stay in the span as entries are put, written and removed, and are found in it.
use Rattle.std.proofs.Common.{◌≡◌, ◌∙◌, arith, refl, ap, sym, subst, true≢false}
use Rattle.std.proofs.lemmas.Bool.Decides.{nat_tests}
use Rattle.std.specs.Prelude.{Bool, true, false, not, ◌&&◌, ◌||◌, ◌==◌, length, List, [], ◌∷◌, ◌++◌, Option, Some, None, Result, Ok, Err, OnOk, OnErr, fold, cond, if◌then◌else◌}
use Rattle.std.specs.List.{AllByRecursion, list_any}
use Rattle.std.specs.List.Sorted.{IsStrictlySortedBy}
use Rattle.std.specs.Map.{keys_of, lookup, set_value, remove_entry}
use Rattle.std.specs.BTreeMap.{insert_entry, is_at}
use Rattle.std.specs.BTreeMap.Range.{IsLeBy, entries_between}
use Rattle.std.specs.Ordering.{is_lt, is_le, is_gt, is_eq, ordering_reverse, match_ordering}
use Rattle.std.specs.declared.cmp.Ordering.{Ordering}
use Rattle.std.specs.declared.cmp.Ordering.TheVariants.{Less, Equal, Greater}
use Rattle.std.specs.declared.ops.Bound.TheVariants.{Included}
use Rattle.std.proofs.lemmas.Cmp.{upto, tied_itself}
use Rattle.std.proofs.lemmas.Map.Keys.{sorted_head, sorted_tail}
use Rattle.qs_base.specs.Order.{tid_cmp}
use Rattle.qs_base.specs.declared.identifiers.Tid.{Tid}
use Rattle.qs_base.proofs.TidOrder.{tid_total, tid_exact}
use Rattle.qs_tm.specs.Known.{may_be_due, in_span, AreInSpan, IsSpanned}
use Rattle.qs_tm.specs.Manager.{put_tid}
use Rattle.qs_tm.specs.declared.manager.Which.TheVariants as whiches
use Rattle.qs_tm.specs.declared.participant.Participant.{Participant}

-- ---- truth values and orders

and-left : (a b : Bool) → a && b ≡ true → a ≡ true
and-left true b e = refl
and-left false b e = e

and-right : (a b : Bool) → a && b ≡ true → b ≡ true
and-right true b e = e
and-right false b e = absurd (true≢false (sym e))

both : (a b : Bool) → a ≡ true → b ≡ true → a && b ≡ true
both true b p q = q
both false b p q = p

or-left : (a b : Bool) → a || b ≡ false → a ≡ false
or-left true b e = e
or-left false b e = refl

or-right : (a b : Bool) → a || b ≡ false → b ≡ false
or-right true b e = absurd (true≢false e)
or-right false b e = e

not_so : (a b : Bool) → (a ≡ true → b ≡ true) → b ≡ false → a ≡ false
not_so true b f e = absurd (true≢false (sym (f refl) ∙ e))
not_so false b f e = refl

le-is : (r : Ordering) → is_le r ≡ true → is_gt r ≡ false
le-is Less e = refl
le-is Equal e = refl
le-is Greater e = absurd (true≢false (sym e))

is-le : (r : Ordering) → is_gt r ≡ false → is_le r ≡ true
is-le Less e = refl
is-le Equal e = refl
is-le Greater e = absurd (true≢false e)

not-past : (r : Ordering) → not (is_lt r) ≡ true → is_gt (ordering_reverse r) ≡ false
not-past Less e = absurd (true≢false (sym e))
not-past Equal e = refl
not-past Greater e = refl

past-not : (r : Ordering) → is_gt (ordering_reverse r) ≡ false → not (is_lt r) ≡ true
past-not Less e = absurd (true≢false e)
past-not Equal e = refl
past-not Greater e = refl

eq-is : (r : Ordering) → is_eq r ≡ true → r ≡ Equal
eq-is Less e = absurd (true≢false (sym e))
eq-is Equal e = refl
eq-is Greater e = absurd (true≢false (sym e))

-- ---- spans

at-least : (span : Tid × Tid) (tid : Tid) → in_span (Some span) tid ≡ true → is_gt (tid_cmp span.0 tid) ≡ false
at-least span tid e = le-is (tid_cmp span.0 tid) (and-left (is_le (tid_cmp span.0 tid)) (not (is_lt (tid_cmp span.1 tid))) e)

at-most : (span : Tid × Tid) (tid : Tid) → in_span (Some span) tid ≡ true → is_gt (tid_cmp tid span.1) ≡ false
at-most span tid e =
    ap is_gt (tid_total.antisymm tid span.1)
    ∙ not-past (tid_cmp span.1 tid) (and-right (is_le (tid_cmp span.0 tid)) (not (is_lt (tid_cmp span.1 tid))) e)

pub within : (span : Tid × Tid) (tid : Tid) → is_gt (tid_cmp span.0 tid) ≡ false → is_gt (tid_cmp tid span.1) ≡ false → in_span (Some span) tid ≡ true
within span tid p r =
    both (is_le (tid_cmp span.0 tid)) (not (is_lt (tid_cmp span.1 tid)))
    (is-le (tid_cmp span.0 tid) p)
    (past-not (tid_cmp span.1 tid) (sym (ap is_gt (tid_total.antisymm tid span.1)) ∙ r))

pub alone : (tid : Tid) → IsLeBy tid_cmp tid tid
alone tid = ap is_gt (tied_itself tid_total tid)

pub wider : (span more : Tid × Tid) → is_gt (tid_cmp more.0 span.0) ≡ false → is_gt (tid_cmp span.1 more.1) ≡ false
    → (entries : List (Tid × Participant)) → AreInSpan (Some span) entries → AreInSpan (Some more) entries
wider span more p r [] a = tt
wider span more p r (e ∷ es) a = (
  (λ d. within more e.0
      (upto tid_total more.0 span.0 e.0 p (at-least span e.0 (a.0 d)))
      (upto tid_total e.0 span.1 more.1 (at-most span e.0 (a.0 d)) r)),
  wider span more p r es a.1,
)

-- ---- where nothing is due

pub of_none : (more : Option (Tid × Tid)) (entries : List (Tid × Participant)) → AreInSpan None entries → AreInSpan more entries
of_none more [] a = tt
of_none more (e ∷ es) a = ((λ d. absurd (true≢false (sym (a.0 d)))), of_none more es a.1)

pub none_due : (span : Tid × Tid) (more : Option (Tid × Tid)) (entries : List (Tid × Participant))
    → list_any (λ (entry : Tid × Participant). may_be_due entry.1) (entries_between tid_cmp (Included span.0) (Included span.1) entries) ≡ false
    → AreInSpan (Some span) entries → AreInSpan more entries
none_due span more [] n a = tt
none_due span more (e ∷ es) n a = by (in_span (Some span) e.0) refl n (λ m. none_due span more es m a.1)
  where
    by : (b : Bool) → in_span (Some span) e.0 ≡ b
        → list_any (λ (entry : Tid × Participant). may_be_due entry.1) (cond b (e ∷ entries_between tid_cmp (Included span.0) (Included span.1) es) (entries_between tid_cmp (Included span.0) (Included span.1) es)) ≡ false
        → (list_any (λ (entry : Tid × Participant). may_be_due entry.1) (entries_between tid_cmp (Included span.0) (Included span.1) es) ≡ false → AreInSpan more es)
        → AreInSpan more (e ∷ es)
    by true is m rest = ((λ d. absurd (true≢false (sym d ∙ or-left (may_be_due e.1) _ m))), rest (or-right (may_be_due e.1) _ m))
    by false is m rest = ((λ d. absurd (true≢false (sym (a.0 d) ∙ is))), rest m)

skipped : (tids : List Tid) (e : Tid × Participant) → may_be_due e.1 ≡ false → put_tid whiches.Due tids e ≡ tids
skipped tids e n = ap (λ (b : Bool). if b then tids ++ e.0 ∷ [] else tids) n

pub nothing_due : (tids : List Tid) (entries : List (Tid × Participant)) → AreInSpan None entries → fold (put_tid whiches.Due) tids entries ≡ tids
nothing_due tids [] a = refl
nothing_due tids (e ∷ es) a =
    ap (λ (w : List Tid). fold (put_tid whiches.Due) w es) (skipped tids e (not_so (may_be_due e.1) false a.0 refl))
    ∙ nothing_due tids es a.1

abbrev is_nil : List Tid → Bool
is_nil [] = true
is_nil (t ∷ ts) = false

nonempty : (t : Tid) (ts : List Tid) → t ∷ ts ≡ [] → ⊥
nonempty t ts e = true≢false (sym (ap is_nil e))

listed_stay : (e : Tid × Participant) (b : Bool) (tids : List Tid) → (if b then tids ++ e.0 ∷ [] else tids) ≡ [] → tids ≡ []
listed_stay e true [] n = refl
listed_stay e true (t ∷ ts) n = absurd (nonempty t (ts ++ e.0 ∷ []) n)
listed_stay e false tids n = n

none_before : (tids : List Tid) (entries : List (Tid × Participant)) → fold (put_tid whiches.Due) tids entries ≡ [] → tids ≡ []
none_before tids [] n = n
none_before tids (e ∷ es) n = listed_stay e (may_be_due e.1) tids (none_before (put_tid whiches.Due tids e) es n)

one_listed : (e : Tid × Participant) (b : Bool) → (if b then e.0 ∷ [] else []) ≡ [] → b ≡ true → ⊥
one_listed e true n d = nonempty e.0 [] n
one_listed e false n d = true≢false (sym d)

-- where none is listed, none is due
pub none_listed : (entries : List (Tid × Participant)) → fold (put_tid whiches.Due) [] entries ≡ [] → AreInSpan None entries
none_listed [] n = tt
none_listed (e ∷ es) n =
    let first : put_tid whiches.Due [] e ≡ [] = none_before (put_tid whiches.Due [] e) es n in
    ((λ d. absurd (one_listed e (may_be_due e.1) first d)), none_listed es (ap (λ (w : List Tid). fold (put_tid whiches.Due) w es) (sym first) ∙ n))

pub none_left : (tids : List Tid) (entries : List (Tid × Participant)) → tids ≡ fold (put_tid whiches.Due) [] entries
    → true ≡ (length tids == 0) → AreInSpan None entries
none_left [] entries is e = none_listed entries (sym is)
none_left (t ∷ ts) entries is e = absurd (grind (arith, nat_tests, e))

-- those that are due are those of the span
pub due_between : (span : Tid × Tid) (tids : List Tid) (entries : List (Tid × Participant)) → AreInSpan (Some span) entries
    → fold (put_tid whiches.Due) tids (entries_between tid_cmp (Included span.0) (Included span.1) entries) ≡ fold (put_tid whiches.Due) tids entries
due_between span tids [] a = refl
due_between span tids (e ∷ es) a = by (in_span (Some span) e.0) refl (λ now. due_between span now es a.1)
  where
    by : (b : Bool) → in_span (Some span) e.0 ≡ b
        → ((now : List Tid) → fold (put_tid whiches.Due) now (entries_between tid_cmp (Included span.0) (Included span.1) es) ≡ fold (put_tid whiches.Due) now es)
        → fold (put_tid whiches.Due) tids (cond b (e ∷ entries_between tid_cmp (Included span.0) (Included span.1) es) (entries_between tid_cmp (Included span.0) (Included span.1) es))
        ≡ fold (put_tid whiches.Due) (put_tid whiches.Due tids e) es
    by true is rest = rest (put_tid whiches.Due tids e)
    by false is rest =
        rest tids
        ∙ ap (λ (w : List Tid). fold (put_tid whiches.Due) w es) (sym (skipped tids e (not_so (may_be_due e.1) (in_span (Some span) e.0) a.0 is)))

-- ---- changes of the entries

pub spanned_put : (span : Option (Tid × Tid)) (tid : Tid) (part : Participant) (entries : List (Tid × Participant))
    → in_span span tid ≡ true → AreInSpan span entries → AreInSpan span (insert_entry tid_cmp entries tid part)
spanned_put span tid part [] w a = ((λ d. w), tt)
spanned_put span tid part (e ∷ es) w a = by (tid_cmp tid e.0) refl (spanned_put span tid part es w a.1)
  where
    by : (r : Ordering) → tid_cmp tid e.0 ≡ r → AreInSpan span (insert_entry tid_cmp es tid part)
        → AreInSpan span (match_ordering r ((tid, part) ∷ e ∷ es) ((e.0, part) ∷ es) (e ∷ insert_entry tid_cmp es tid part))
    by Less is rest = ((λ d. w), a)
    by Equal is rest = ((λ d. subst (λ (t : Tid). in_span span t ≡ true) (tid_exact tid e.0 is) w), a.1)
    by Greater is rest = (a.0, rest)

pub spanned_set : (span : Option (Tid × Tid)) (tid : Tid) (entries : List (Tid × Participant)) (part : Participant)
    → in_span span tid ≡ true → AreInSpan span entries → AreInSpan span (set_value (is_at (tid_cmp tid)) entries part)
spanned_set span tid [] part w a = tt
spanned_set span tid (e ∷ es) part w a = by (is_eq (tid_cmp tid e.0)) refl (spanned_set span tid es part w a.1)
  where
    by : (b : Bool) → is_eq (tid_cmp tid e.0) ≡ b → AreInSpan span (set_value (is_at (tid_cmp tid)) es part)
        → AreInSpan span (cond b ((e.0, part) ∷ es) (e ∷ set_value (is_at (tid_cmp tid)) es part))
    by true is rest = ((λ d. subst (λ (t : Tid). in_span span t ≡ true) (tid_exact tid e.0 (eq-is (tid_cmp tid e.0) is)) w), a.1)
    by false is rest = (a.0, rest)

pub spanned_remove : (span : Option (Tid × Tid)) (test : Tid → Bool) (entries : List (Tid × Participant))
    → AreInSpan span entries → AreInSpan span (remove_entry test entries)
spanned_remove span test [] a = tt
spanned_remove span test (e ∷ es) a = by (test e.0) (spanned_remove span test es a.1)
  where
    by : (b : Bool) → AreInSpan span (remove_entry test es) → AreInSpan span (cond b es (e ∷ remove_entry test es))
    by true rest = a.1
    by false rest = (a.0, rest)

-- after a put that may be refused
pub spanned_after : {T E : Type 0} (span : Tid × Tid) (tid : Tid) (part : Participant) (old new : List (Tid × Participant)) (result : Result T E)
    → OnOk result (new ≡ insert_entry tid_cmp old tid part) → OnErr result (new ≡ old)
    → in_span (Some span) tid ≡ true → IsSpanned (Some span) old → IsSpanned (Some span) new
spanned_after span tid part old new (Ok x) ok err w s =
    record { forward = s.forward; due = subst (λ (es : List (Tid × Participant)). AreInSpan (Some span) es) (sym ok) (spanned_put (Some span) tid part old w s.due) }
spanned_after span tid part old new (Err x) ok err w s = subst (λ (es : List (Tid × Participant)). IsSpanned (Some span) es) (sym err) s

-- ---- a span of one

apart : (t : Tid) (e : Tid × Participant) (o : Ordering) → tid_cmp t e.0 ≡ o → is_eq o ≡ false
    → (may_be_due e.1 ≡ true → in_span (Some (t, t)) e.0 ≡ true) → may_be_due e.1 ≡ false
apart t e o is n a = not_so (may_be_due e.1) (in_span (Some (t, t)) e.0) a (outside o is n)
  where
    outside : (o : Ordering) → tid_cmp t e.0 ≡ o → is_eq o ≡ false → in_span (Some (t, t)) e.0 ≡ false
    outside Less is n = rw is refl
    outside Equal is n = absurd (true≢false n)
    outside Greater is n = rw is refl

none_after : (t : Tid) (es : List (Tid × Participant)) → AllByRecursion (λ (y : Tid). tid_cmp t y ≡ Less) (keys_of es)
    → AreInSpan (Some (t, t)) es → AreInSpan None es
none_after t [] s a = tt
none_after t (e ∷ es) s a = ((λ d. absurd (true≢false (sym d ∙ apart t e Less s.0 refl a.0))), none_after t es s.1 a.1)

abbrev pub listed_at : Tid → Option Participant → List Tid
listed_at t None = []
listed_at t (Some part) = put_tid whiches.Due [] (t, part)

-- where no other stands in the span, what is due is what the look-up finds
pub due_alone : (t : Tid) (entries : List (Tid × Participant)) → IsStrictlySortedBy tid_cmp (keys_of entries) → AreInSpan (Some (t, t)) entries
    → fold (put_tid whiches.Due) [] entries ≡ listed_at t (lookup (is_at (tid_cmp t)) entries)
due_alone t [] s a = refl
due_alone t (e ∷ es) s a = by (tid_cmp t e.0) refl (due_alone t es (sorted_tail tid_cmp e.0 (keys_of es) s) a.1)
  where
    by : (o : Ordering) → tid_cmp t e.0 ≡ o → fold (put_tid whiches.Due) [] es ≡ listed_at t (lookup (is_at (tid_cmp t)) es)
        → fold (put_tid whiches.Due) (put_tid whiches.Due [] e) es ≡ listed_at t (cond (is_eq o) (Some e.1) (lookup (is_at (tid_cmp t)) es))
    by Less is rest = ap (λ (w : List Tid). fold (put_tid whiches.Due) w es) (skipped [] e (apart t e Less is refl a.0)) ∙ rest
    by Greater is rest = ap (λ (w : List Tid). fold (put_tid whiches.Due) w es) (skipped [] e (apart t e Greater is refl a.0)) ∙ rest
    by Equal is rest =
        nothing_due (put_tid whiches.Due [] e) es
        (none_after t es (subst (λ (k : Tid). AllByRecursion (λ (y : Tid). tid_cmp k y ≡ Less) (keys_of es)) (sym (tid_exact t e.0 is)) (sorted_head tid_cmp e.0 (keys_of es) s)) a.1)
        ∙ ap (λ (k : Tid). put_tid whiches.Due [] (k, e.1)) (sym (tid_exact t e.0 is))
