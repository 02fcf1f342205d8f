-- The counts of a queue stay those of what waits.
use Rattle.std.proofs.Common.{◌≡◌, ◌≢◌, ◌∙◌, ◌≤◌, ◌<◌, ◌+◌, ◌-◌, ℕ, zero, suc, Bool, true, false, cond, List, [], ◌∷◌, ◌++◌, Option, Some, None, refl, sym, ap, subst, arith}
use Rattle.std.proofs.lemmas.Bool.Decides.{nat_tests}
use Rattle.std.specs.Prelude.{◌==◌, nat_lt, unwrap_or, if◌then◌else◌}
use Rattle.std.specs.List.{list_any}
use Rattle.std.specs.Map.{lookup}
use Rattle.std.specs.BTreeMap.{is_at}
use Rattle.qs_base.specs.Order.{tid_cmp, same_tid}
use Rattle.qs_base.specs.declared.identifiers.Tid.{Tid}
use Rattle.qs_ipc.specs.declared.delivery.Delivery.{Delivery}
use Rattle.qs_ipc.specs.declared.queue.QueueCounts.{QueueCounts}
use Rattle.qs_ipc.specs.Queue.{no_counts, counts_at, is_of, count_of, IsCounted, waits_more, served_more, changed_entry}
use Rattle.qs_ipc.proofs.Found.{same_self, same_flip, same_exact, asked, changed_found, changed_apart}

-- some wait exactly where their count is not 0
pub some_wait : (tid : Tid) (waiting : List Delivery) → nat_lt 0 (count_of tid waiting) ≡ list_any (is_of tid) waiting
some_wait tid [] = refl
some_wait tid (d ∷ rest) = by (is_of tid d) refl (some_wait tid rest)
  where
    above : (n : ℕ) → nat_lt 0 (n + 1) ≡ true
    above n = grind (arith, nat_tests)

    by : (b : Bool) → is_of tid d ≡ b → nat_lt 0 (count_of tid rest) ≡ list_any (is_of tid) rest → nat_lt 0 (count_of tid (d ∷ rest)) ≡ list_any (is_of tid) (d ∷ rest)
    by true is more = rw is (above (count_of tid rest))
    by false is more = rw is more

count_more : (tid : Tid) (waiting : List Delivery) (d : Delivery) → count_of tid (waiting ++ d ∷ []) ≡ (if is_of tid d then count_of tid waiting + 1 else count_of tid waiting)
count_more tid [] d = refl
count_more tid (x ∷ rest) d = by (is_of tid x) refl (is_of tid d) refl (count_more tid rest d)
  where
    by : (b : Bool) → is_of tid x ≡ b → (c : Bool) → is_of tid d ≡ c → count_of tid (rest ++ d ∷ []) ≡ (if is_of tid d then count_of tid rest + 1 else count_of tid rest)
        → count_of tid (x ∷ (rest ++ d ∷ [])) ≡ (if is_of tid d then count_of tid (x ∷ rest) + 1 else count_of tid (x ∷ rest))
    by true is true of more = rw (is, of) (ap (λ (n : ℕ). n + 1) (more ∙ rw of refl))
    by true is false of more = rw (is, of) (ap (λ (n : ℕ). n + 1) (more ∙ rw of refl))
    by false is true of more = rw (is, of) (more ∙ rw of refl)
    by false is false of more = rw (is, of) (more ∙ rw of refl)

-- the counts of k were replaced by w, and all others stay
abbrev pub Replaced : List (Tid × QueueCounts) → List (Tid × QueueCounts) → Tid → Option QueueCounts → Type 0
Replaced old new k w = (q : Tid) → lookup (is_at (tid_cmp q)) new ≡ cond (is_at (tid_cmp k) q) w (lookup (is_at (tid_cmp q)) old)

record Same (old new : List (Tid × QueueCounts)) (k : Tid) (w : QueueCounts) (q : Tid) : Type 0 where
  here : same_tid k q ≡ true → (k ≡ q) × (counts_at new q ≡ w)
  apart : same_tid k q ≡ false → counts_at new q ≡ counts_at old q

replaced_at : (old new : List (Tid × QueueCounts)) (k : Tid) (w : Option QueueCounts) → Replaced old new k w → (q : Tid) → Same old new k (unwrap_or w no_counts) q
replaced_at old new k w r q = record {
  here = λ is. (same_exact k q is, ap (λ (o : Option QueueCounts). unwrap_or o no_counts) (r q ∙ ap (λ (b : Bool). cond b w (lookup (is_at (tid_cmp q)) old)) (asked k q ∙ is)));
  apart = λ is. ap (λ (o : Option QueueCounts). unwrap_or o no_counts) (r q ∙ ap (λ (b : Bool). cond b w (lookup (is_at (tid_cmp q)) old)) (asked k q ∙ is));
}

-- a request more waits
pub added_counted : (waiting : List Delivery) (old new : List (Tid × QueueCounts)) (d : Delivery) → IsCounted waiting old → (count_of d.tid waiting + (counts_at old d.tid).served == 4294967295) ≡ false
    → Replaced old new d.tid (Some (waits_more (counts_at old d.tid))) → IsCounted (waiting ++ d ∷ []) new
added_counted waiting old new d i room r = record { waits = λ q. waits q (same_tid d.tid q) refl; fits = λ q. fits q (same_tid d.tid q) refl }
  where
    its : (q : Tid) → Same old new d.tid (waits_more (counts_at old d.tid)) q
    its = replaced_at old new d.tid (Some (waits_more (counts_at old d.tid))) r

    of : (q : Tid) (b : Bool) → same_tid d.tid q ≡ b → is_of q d ≡ b
    of q b is = same_flip q d.tid ∙ is

    waits : (q : Tid) (b : Bool) → same_tid d.tid q ≡ b → (counts_at new q).waiting ≡ count_of q (waiting ++ d ∷ [])
    waits q true is =
        ap (λ (c : QueueCounts). c.waiting) ((its q).here is).1 ∙ ap (λ (n : ℕ). n + 1) (i.waits d.tid) ∙ ap (λ (t : Tid). count_of t waiting + 1) ((its q).here is).0
        ∙ sym (count_more q waiting d ∙ ap (λ (b : Bool). if b then count_of q waiting + 1 else count_of q waiting) (of q true is))
    waits q false is =
        ap (λ (c : QueueCounts). c.waiting) ((its q).apart is) ∙ i.waits q
        ∙ sym (count_more q waiting d ∙ ap (λ (b : Bool). if b then count_of q waiting + 1 else count_of q waiting) (of q false is))

    fits : (q : Tid) (b : Bool) → same_tid d.tid q ≡ b → (counts_at new q).waiting + (counts_at new q).served ≤ 4294967295
    fits q true is = rw ((its q).here is).1 (below (counts_at old d.tid).waiting (count_of d.tid waiting) (counts_at old d.tid).served (i.waits d.tid) (i.fits d.tid) room)
      where
        below : (w n s : ℕ) → w ≡ n → w + s ≤ 4294967295 → (n + s == 4294967295) ≡ false → w + 1 + s ≤ 4294967295
        below w n s e h room = grind (arith, nat_tests, e, h, room)
    fits q false is = rw ((its q).apart is) (i.fits q)

-- the first is served
pub first_waits : (d : Delivery) (rest : List Delivery) (old : List (Tid × QueueCounts)) → IsCounted (d ∷ rest) old → (counts_at old d.tid).waiting ≡ count_of d.tid rest + 1
first_waits d rest old i = i.waits d.tid ∙ rw (same_self d.tid) refl

pub first_fits : (d : Delivery) (rest : List Delivery) (old : List (Tid × QueueCounts)) → IsCounted (d ∷ rest) old → (counts_at old d.tid).served < 4294967295
first_fits d rest old i = below (counts_at old d.tid).waiting (counts_at old d.tid).served (count_of d.tid rest) (first_waits d rest old i) (i.fits d.tid)
  where
    below : (w s n : ℕ) → w ≡ n + 1 → w + s ≤ 4294967295 → s < 4294967295
    below w s n e h = omega (arith, e, h)

-- its entry is there
found : (tid : Tid) (es : List (Tid × QueueCounts)) → 1 ≤ (counts_at es tid).waiting → lookup (is_at (tid_cmp tid)) es ≡ Some (counts_at es tid)
found tid es some = by (lookup (is_at (tid_cmp tid)) es) refl
  where
    by : (o : Option QueueCounts) → lookup (is_at (tid_cmp tid)) es ≡ o → lookup (is_at (tid_cmp tid)) es ≡ Some (counts_at es tid)
    by None is = absurd (none (subst (λ (o : Option QueueCounts). 1 ≤ (unwrap_or o no_counts).waiting) is some))
      where
        none : 1 ≤ 0 → ⊥
        none h = absurd (omega (arith, h))
    by (Some v) is = is ∙ ap (λ (o : Option QueueCounts). Some (unwrap_or o no_counts)) (sym is)

changed : (tid : Tid) (es : List (Tid × QueueCounts)) → 1 ≤ (counts_at es tid).waiting → Replaced es (changed_entry (is_at (tid_cmp tid)) served_more es) tid (Some (served_more (counts_at es tid)))
changed tid es some q = by (same_tid tid q) refl
  where
    by : (b : Bool) → same_tid tid q ≡ b → lookup (is_at (tid_cmp q)) (changed_entry (is_at (tid_cmp tid)) served_more es) ≡ cond (is_at (tid_cmp tid) q) (Some (served_more (counts_at es tid))) (lookup (is_at (tid_cmp q)) es)
    by true is = rw (asked tid q ∙ is) (subst (λ (t : Tid). lookup (is_at (tid_cmp t)) (changed_entry (is_at (tid_cmp tid)) served_more es) ≡ Some (served_more (counts_at es tid))) (same_exact tid q is) (changed_found served_more (is_at (tid_cmp tid)) es (counts_at es tid) (found tid es some)))
    by false is = rw (asked tid q ∙ is) (changed_apart served_more (is_at (tid_cmp tid)) (is_at (tid_cmp q)) (λ k has. apart k (sym (asked q k) ∙ has)) es)
      where
        apart : (k : Tid) → same_tid q k ≡ true → is_at (tid_cmp tid) k ≡ false
        apart k has = asked tid k ∙ ap (λ (t : Tid). same_tid tid t) (sym (same_exact q k has)) ∙ is

pub served_counted : (d : Delivery) (rest : List Delivery) (old : List (Tid × QueueCounts)) → IsCounted (d ∷ rest) old → IsCounted rest (changed_entry (is_at (tid_cmp d.tid)) served_more old)
served_counted d rest old i = record { waits = λ q. waits q (same_tid d.tid q) refl; fits = λ q. fits q (same_tid d.tid q) refl }
  where
    new : List (Tid × QueueCounts)
    new = changed_entry (is_at (tid_cmp d.tid)) served_more old

    some : 1 ≤ (counts_at old d.tid).waiting
    some = above (counts_at old d.tid).waiting (count_of d.tid rest) (first_waits d rest old i)
      where
        above : (w n : ℕ) → w ≡ n + 1 → 1 ≤ w
        above w n e = omega (arith, e)

    its : (q : Tid) → Same old new d.tid (served_more (counts_at old d.tid)) q
    its = replaced_at old new d.tid (Some (served_more (counts_at old d.tid))) (changed d.tid old some)

    waits : (q : Tid) (b : Bool) → same_tid d.tid q ≡ b → (counts_at new q).waiting ≡ count_of q rest
    waits q true is = ap (λ (c : QueueCounts). c.waiting) ((its q).here is).1 ∙ less (counts_at old d.tid).waiting (count_of d.tid rest) (first_waits d rest old i) ∙ ap (λ (t : Tid). count_of t rest) ((its q).here is).0
      where
        less : (w n : ℕ) → w ≡ n + 1 → w - 1 ≡ n
        less w n e = omega (arith, e)
    waits q false is = ap (λ (c : QueueCounts). c.waiting) ((its q).apart is) ∙ i.waits q ∙ ap (λ (b : Bool). if b then count_of q rest + 1 else count_of q rest) (same_flip q d.tid ∙ is)

    fits : (q : Tid) (b : Bool) → same_tid d.tid q ≡ b → (counts_at new q).waiting + (counts_at new q).served ≤ 4294967295
    fits q true is = rw ((its q).here is).1 (as_before (counts_at old d.tid).waiting (counts_at old d.tid).served some (i.fits d.tid))
      where
        as_before : (w s : ℕ) → 1 ≤ w → w + s ≤ 4294967295 → w - 1 + (s + 1) ≤ 4294967295
        as_before w s e h = omega (arith, e, h)
    fits q false is = rw ((its q).apart is) (i.fits q)

-- nothing of it waits, and it is forgotten
pub forgotten_counted : (waiting : List Delivery) (old new : List (Tid × QueueCounts)) (tid : Tid) → IsCounted waiting old → list_any (is_of tid) waiting ≡ false → Replaced old new tid None → IsCounted waiting new
forgotten_counted waiting old new tid i none r = record { waits = λ q. waits q (same_tid tid q) refl; fits = λ q. fits q (same_tid tid q) refl }
  where
    its : (q : Tid) → Same old new tid no_counts q
    its = replaced_at old new tid None r

    waits : (q : Tid) (b : Bool) → same_tid tid q ≡ b → (counts_at new q).waiting ≡ count_of q waiting
    waits q true is = ap (λ (c : QueueCounts). c.waiting) ((its q).here is).1 ∙ sym (ap (λ (t : Tid). count_of t waiting) (sym ((its q).here is).0) ∙ zero_of (count_of tid waiting) (some_wait tid waiting ∙ none))
      where
        zero_of : (n : ℕ) → nat_lt 0 n ≡ false → n ≡ 0
        zero_of n h = grind (arith, nat_tests, h)
    waits q false is = ap (λ (c : QueueCounts). c.waiting) ((its q).apart is) ∙ i.waits q

    fits : (q : Tid) (b : Bool) → same_tid tid q ≡ b → (counts_at new q).waiting + (counts_at new q).served ≤ 4294967295
    fits q true is = rw ((its q).here is).1 (omega arith)
    fits q false is = rw ((its q).apart is) (i.fits q)

pub counted_none : IsCounted [] []
counted_none = record { waits = λ q. refl; fits = λ q. omega arith }
