-- A log has room for the records of a step, and keeps what it has to.
use Rattle.std.proofs.Common.{◌≡◌, ℕ, ◌+◌, ◌-◌, ◌*◌, ◌≤◌, arith, Bool, true, false, List, [], ◌∷◌, ◌++◌, length, suc, Option, Some, None, refl, sym, ap, subst, ◌∙◌, append_assoc, fold, if◌then◌else◌}
use Rattle.std.proofs.lemmas.List.{append-nil}
use Rattle.std.specs.Prelude.{cond, ⊤, is_some, sum_by}
use Rattle.std.specs.Map.{lookup, set_value, remove_entry}
use Rattle.std.specs.BTreeMap.{insert_entry, is_at}
use Rattle.std.specs.declared.cmp.Ordering.{Ordering}
use Rattle.std.specs.declared.cmp.Ordering.TheVariants.{Less, Equal, Greater}
use Rattle.qs_base.specs.Order.{tid_cmp}
use Rattle.qs_base.specs.declared.identifiers.Tid.{Tid}
use Rattle.qs_log.specs.Log.{need_of, waiting_length}
use Rattle.qs_record.specs.Grammar.{record_length}
use Rattle.qs_record.specs.declared.record.Record.{Record}
use Rattle.qs_record.specs.declared.record.Record.TheVariants as records
use Rattle.qs_node_room.specs.Room as room
use Rattle.qs_node_room.specs.Room.{Tids, unended, free_room}
use Rattle.qs_node_step.specs.State.{NodeValue}
use Rattle.qs_node_step.specs.Step.{after_step, effects_of}
use Rattle.qs_node_room.specs.Kept.{Kept, kept_at, own_bytes, after_record, kept_after, kept_of, total, spent}
use Rattle.qs_node_room.specs.Fits.{AgreesAll}
use Rattle.qs_node_room.specs.Logs.{EachStepLogs, free_to, room_in}
use Rattle.qs_node_room.proofs.EachFits.{each_step_fits}

-- ---- the transactions that are not ended are those for which something is kept

abbrev Same : Kept → Tids → Type 0
Same [] [] = ⊤
Same [] (u ∷ us) = ⊥
Same (e ∷ es) [] = ⊥
Same (e ∷ es) (u ∷ us) = (e.0 ≡ u.0) × Same es us

same_length : (es : Kept) (us : Tids) → Same es us → length es ≡ length us
same_length [] [] s = refl
same_length [] (u ∷ us) s = absurd s
same_length (e ∷ es) [] s = absurd s
same_length (e ∷ es) (u ∷ us) s = ap suc (same_length es us s.1)

same_found : (p : Tid → Bool) (es : Kept) (us : Tids) → Same es us → is_some (lookup p es) ≡ is_some (lookup p us)
same_found p [] [] s = refl
same_found p [] (u ∷ us) s = absurd s
same_found p (e ∷ es) [] s = absurd s
same_found p (e ∷ es) (u ∷ us) s = by (p e.0) refl (same_found p es us s.1)
  where
    by : (b : Bool) → p e.0 ≡ b → is_some (lookup p es) ≡ is_some (lookup p us) → is_some (lookup p (e ∷ es)) ≡ is_some (lookup p (u ∷ us))
    by true is more = let at : p u.0 ≡ true = ap p (sym s.0) ∙ is in rw (is, at) refl
    by false is more = let at : p u.0 ≡ false = ap p (sym s.0) ∙ is in rw (is, at) more

same_put : (t : Tid) (v : ℕ) (es : Kept) (us : Tids) → Same es us → Same (insert_entry tid_cmp es t v) (insert_entry tid_cmp us t tt)
same_put t v [] [] s = (refl, tt)
same_put t v [] (u ∷ us) s = absurd s
same_put t v (e ∷ es) [] s = absurd s
same_put t v (e ∷ es) (u ∷ us) s = by (tid_cmp t e.0) refl (same_put t v es us s.1)
  where
    by : (r : Ordering) → tid_cmp t e.0 ≡ r → Same (insert_entry tid_cmp es t v) (insert_entry tid_cmp us t tt) → Same (insert_entry tid_cmp (e ∷ es) t v) (insert_entry tid_cmp (u ∷ us) t tt)
    by Less is more = let at : tid_cmp t u.0 ≡ Less = ap (tid_cmp t) (sym s.0) ∙ is in rw (is, at) (refl, s)
    by Equal is more = let at : tid_cmp t u.0 ≡ Equal = ap (tid_cmp t) (sym s.0) ∙ is in rw (is, at) s
    by Greater is more = let at : tid_cmp t u.0 ≡ Greater = ap (tid_cmp t) (sym s.0) ∙ is in rw (is, at) (s.0, more)

same_set : (p : Tid → Bool) (v : ℕ) (es : Kept) (us : Tids) → Same es us → Same (set_value p es v) us
same_set p v [] us s = s
same_set p v (e ∷ es) [] s = absurd s
same_set p v (e ∷ es) (u ∷ us) s = by (p e.0) (same_set p v es us s.1)
  where
    by : (b : Bool) → Same (set_value p es v) us → Same (cond b ((e.0, v) ∷ es) (e ∷ set_value p es v)) (u ∷ us)
    by true more = s
    by false more = (s.0, more)

same_remove : (p : Tid → Bool) (es : Kept) (us : Tids) → Same es us → Same (remove_entry p es) (remove_entry p us)
same_remove p [] [] s = tt
same_remove p [] (u ∷ us) s = absurd s
same_remove p (e ∷ es) [] s = absurd s
same_remove p (e ∷ es) (u ∷ us) s = by (p e.0) refl (same_remove p es us s.1)
  where
    by : (b : Bool) → p e.0 ≡ b → Same (remove_entry p es) (remove_entry p us) → Same (remove_entry p (e ∷ es)) (remove_entry p (u ∷ us))
    by true is more = let at : p u.0 ≡ true = ap p (sym s.0) ∙ is in rw (is, at) s.1
    by false is more = let at : p u.0 ≡ false = ap p (sym s.0) ∙ is in rw (is, at) (s.0, more)

same_opened : (t : Tid) (v : ℕ) (b : Bool) (es : Kept) (us : Tids) → Same es us → Same (elim (kept_at t es) [ None ↦ insert_entry tid_cmp es t v | Some old ↦ if b then es else set_value (is_at (tid_cmp t)) es v ]) (room.opened t us)
same_opened t v b es us s = by (kept_at t es) (room.has_open t us) (same_found (is_at (tid_cmp t)) es us s)
  where
    changed : (b : Bool) → Same (if b then es else set_value (is_at (tid_cmp t)) es v) us
    changed true = s
    changed false = same_set (is_at (tid_cmp t)) v es us s

    by : (o : Option ℕ) (has : Bool) → is_some o ≡ has → Same (elim o [ None ↦ insert_entry tid_cmp es t v | Some old ↦ if b then es else set_value (is_at (tid_cmp t)) es v ]) (if has then us else insert_entry tid_cmp us t tt)
    by None false e = same_put t v es us s
    by None true e = absurd (cc e)
    by (Some old) true e = changed b
    by (Some old) false e = absurd (cc e)

same_one : (keep extra : ℕ) (rec : Record) (es : Kept) (us : Tids) → Same es us → Same (after_record keep extra es rec) (room.after_record us rec)
same_one keep extra (records.Prepare tid server covers changes) es us s = same_opened tid keep true es us s
same_one keep extra (records.Commit tid []) es us s = same_remove (is_at (tid_cmp tid)) es us s
same_one keep extra (records.Commit tid (node ∷ nodes)) es us s = same_opened tid (keep - own_bytes extra (records.Commit tid (node ∷ nodes))) false es us s
same_one keep extra (records.Aborted tid) es us s = same_remove (is_at (tid_cmp tid)) es us s
same_one keep extra (records.End tid) es us s = same_remove (is_at (tid_cmp tid)) es us s

same_all : (keep extra : ℕ) (log : List Record) (es : Kept) (us : Tids) → Same es us → Same (kept_after keep extra es log) (fold room.after_record us log)
same_all keep extra [] es us s = s
same_all keep extra (rec ∷ log) es us s = same_all keep extra log (after_record keep extra es rec) (room.after_record us rec) (same_one keep extra rec es us s)

as_many : (keep extra : ℕ) (log : List Record) → length (kept_of keep extra log) ≡ length (unended log)
as_many keep extra log = same_length (kept_of keep extra log) (unended log) (same_all keep extra log [] [] tt)

-- ---- lengths

abbrev lens : List Record → ℕ
lens [] = 0
lens (x ∷ xs) = record_length x + lens xs

abbrev bytes_of : List Record → ℕ
bytes_of [] = 0
bytes_of (x ∷ xs) = 41 + lens (x ∷ xs)

sum_from : (xs : List Record) (n : ℕ) → fold (λ (a : ℕ) (x : Record). a + record_length x) n xs ≡ n + lens xs
sum_from [] n = zeros n
  where
    zeros : (n : ℕ) → n ≡ n + 0
    zeros n = grind (arith)
sum_from (x ∷ xs) n = sum_from xs (n + record_length x) ∙ sums n (record_length x) (lens xs)
  where
    sums : (a b c : ℕ) → a + b + c ≡ a + (b + c)
    sums a b c = grind (arith)

sum_is : (xs : List Record) → sum_by record_length xs ≡ lens xs
sum_is xs = sum_from xs 0 ∙ zeros (lens xs)
  where
    zeros : (n : ℕ) → 0 + n ≡ n
    zeros n = grind (arith)

bytes_is : (xs : List Record) → waiting_length xs ≡ bytes_of xs
bytes_is [] = refl
bytes_is (x ∷ xs) = ap (λ (n : ℕ). 41 + n) (sum_is (x ∷ xs))

lens_more : (xs ys : List Record) → lens (xs ++ ys) ≡ lens xs + lens ys
lens_more [] ys = zeros (lens ys)
  where
    zeros : (n : ℕ) → n ≡ 0 + n
    zeros n = grind (arith)
lens_more (x ∷ xs) ys = ap (λ (n : ℕ). record_length x + n) (lens_more xs ys) ∙ sums (record_length x) (lens xs) (lens ys)
  where
    sums : (a b c : ℕ) → a + (b + c) ≡ a + b + c
    sums a b c = grind (arith)

spent_sum : (xs : List Record) → lens xs ≤ spent 0 xs
spent_sum [] = grind (arith)
spent_sum (x ∷ xs) = sums (record_length x) (lens xs) (spent 0 xs) (spent_sum xs)
  where
    sums : (a b c : ℕ) → b ≤ c → a + b ≤ 41 + 0 + a + c
    sums a b c h = grind (arith)

longer_of : (xs ys : List Record) → bytes_of (xs ++ ys) ≤ bytes_of xs + spent 0 ys
longer_of [] [] = grind (arith)
longer_of [] (y ∷ ys) = sums (record_length y) (lens ys) (spent 0 ys) (spent_sum ys)
  where
    sums : (a b c : ℕ) → b ≤ c → 41 + (a + b) ≤ 0 + (41 + 0 + a + c)
    sums a b c h = grind (arith)
longer_of (x ∷ xs) ys = subst (λ (n : ℕ). 41 + (record_length x + n) ≤ 41 + (record_length x + lens xs) + spent 0 ys) (sym (lens_more xs ys)) (sums (record_length x) (lens xs) (lens ys) (spent 0 ys) (spent_sum ys))
  where
    sums : (a b c d : ℕ) → c ≤ d → 41 + (a + (b + c)) ≤ 41 + (a + b) + d
    sums a b c d h = grind (arith)

-- a batch is no longer than its records in batches of their own
longer : (xs ys : List Record) → waiting_length (xs ++ ys) ≤ waiting_length xs + spent 0 ys
longer xs ys = turns (waiting_length (xs ++ ys)) (bytes_of (xs ++ ys)) (waiting_length xs) (bytes_of xs) (spent 0 ys) (bytes_is (xs ++ ys)) (bytes_is xs) (longer_of xs ys)
  where
    turns : (a b c d s : ℕ) → a ≡ b → c ≡ d → b ≤ d + s → a ≤ c + s
    turns a b c d s p q h = grind (arith)

shorter_of : (xs ys : List Record) → bytes_of xs ≤ bytes_of (xs ++ ys)
shorter_of [] ys = least (bytes_of ys)
  where
    least : (n : ℕ) → 0 ≤ n
    least n = grind (arith)
shorter_of (x ∷ xs) ys = subst (λ (n : ℕ). 41 + (record_length x + lens xs) ≤ 41 + (record_length x + n)) (sym (lens_more xs ys)) (sums (record_length x) (lens xs) (lens ys))
  where
    sums : (a b c : ℕ) → 41 + (a + b) ≤ 41 + (a + (b + c))
    sums a b c = grind (arith)

shorter : (xs ys : List Record) → waiting_length xs ≤ waiting_length (xs ++ ys)
shorter xs ys = turns (waiting_length xs) (bytes_of xs) (waiting_length (xs ++ ys)) (bytes_of (xs ++ ys)) (bytes_is xs) (bytes_is (xs ++ ys)) (shorter_of xs ys)
  where
    turns : (a b c d : ℕ) → a ≡ b → c ≡ d → b ≤ d → a ≤ c
    turns a b c d p q h = grind (arith)

needs_of : (xs : List Record) (rec : Record) → need_of xs rec + bytes_of xs ≡ bytes_of (xs ++ rec ∷ [])
needs_of [] rec = sums (record_length rec)
  where
    sums : (a : ℕ) → a + 41 + 0 ≡ 41 + (a + 0)
    sums a = grind (arith)
needs_of (x ∷ xs) rec = sums (record_length rec) (record_length x) (lens xs) (lens (xs ++ rec ∷ [])) (lens_more xs (rec ∷ []))
  where
    sums : (r a b c : ℕ) → c ≡ b + (r + 0) → r + (41 + (a + b)) ≡ 41 + (a + c)
    sums r a b c h = grind (arith)

needs : (xs : List Record) (rec : Record) → need_of xs rec + waiting_length xs ≡ waiting_length (xs ++ rec ∷ [])
needs xs rec = turns (need_of xs rec) (waiting_length xs) (bytes_of xs) (waiting_length (xs ++ rec ∷ [])) (bytes_of (xs ++ rec ∷ [])) (bytes_is xs) (bytes_is (xs ++ rec ∷ [])) (needs_of xs rec)
  where
    turns : (n a b c d : ℕ) → a ≡ b → c ≡ d → n + b ≡ d → n + a ≡ c
    turns n a b c d p q h = grind (arith)

-- ---- the law

pub each_step_logs : EachStepLogs
each_step_logs keep half used forced waiting node event enough agrees rooms new = record {
  agrees = subst (λ (log : List Record). AgreesAll keep 0 later (kept_of keep 0 log)) (append_assoc forced waiting made) fitted.0;
  room = record {
    appends = finds;
    waits = record { on_disk = rooms.on_disk; with_waiting = room_after };
    is_forced = record { on_disk = room_after; with_waiting = emptied (used + waiting_length (waiting ++ made)) (forced ++ (waiting ++ made)) room_after };
    is_lost = record { on_disk = rooms.on_disk; with_waiting = emptied used forced rooms.on_disk };
  };
}
  where
    log : List Record
    log = forced ++ waiting

    free : ℕ
    free = free_to keep half used forced waiting

    made : List Record
    made = (effects_of node event free).records

    later : NodeValue
    later = after_step node event free

    bytes : ℕ
    bytes = room_in half used waiting

    kept_fits : (u w t h : ℕ) → u + w + 1 + t ≤ h → t ≤ h - u - w - 1
    kept_fits u w t h all = grind (arith)

    itself : (n : ℕ) → n ≤ n
    itself n = grind (arith)

    fitted : AgreesAll keep 0 later (kept_of keep 0 (log ++ made)) × (spent 0 made + total (kept_of keep 0 (log ++ made)) ≤ bytes)
    fitted = each_step_fits keep 0 bytes log node event free enough agrees (kept_fits used (waiting_length waiting) (total (kept_of keep 0 log)) half rooms.with_waiting)
        (subst (λ (n : ℕ). free ≤ bytes - keep * n) (sym (as_many keep 0 log)) (itself free)) new

    fits : (u w t s k l h : ℕ) → u + w + 1 + t ≤ h → s + k ≤ h - u - w - 1 → l ≤ w + s → u + l + 1 + k ≤ h
    fits u w t s k l h all some long = grind (arith)

    room_after : used + waiting_length (waiting ++ made) + 1 + total (kept_of keep 0 (forced ++ (waiting ++ made))) ≤ half
    room_after = subst (λ (l : List Record). used + waiting_length (waiting ++ made) + 1 + total (kept_of keep 0 l) ≤ half) (append_assoc forced waiting made)
        (fits used (waiting_length waiting) (total (kept_of keep 0 log)) (spent 0 made) (total (kept_of keep 0 (log ++ made))) (waiting_length (waiting ++ made)) half rooms.with_waiting fitted.1 (longer waiting made))

    emptied : (u : ℕ) (l : List Record) → u + 1 + total (kept_of keep 0 l) ≤ half → u + waiting_length [] + 1 + total (kept_of keep 0 (l ++ [])) ≤ half
    emptied u l all = subst (λ (x : List Record). u + 0 + 1 + total (kept_of keep 0 x) ≤ half) (sym (append-nil l)) (zeros u (total (kept_of keep 0 l)) half all)
      where
        zeros : (u t h : ℕ) → u + 1 + t ≤ h → u + 0 + 1 + t ≤ h
        zeros u t h all = grind (arith)

    one_room : (u n w v t h : ℕ) → u + v + 1 + t ≤ h → n + w ≤ v → n ≤ h - u - w - 1
    one_room u n w v t h all some = grind (arith)

    finds : (done : List Record) (rec : Record) (more : List Record) → made ≡ done ++ rec ∷ more → need_of (waiting ++ done) rec ≤ room_in half used (waiting ++ done)
    finds done rec more is = one_room used (need_of (waiting ++ done) rec) (waiting_length (waiting ++ done)) (waiting_length (waiting ++ made)) (total (kept_of keep 0 (forced ++ (waiting ++ made)))) half room_after
        (subst (λ (n : ℕ). n ≤ waiting_length (waiting ++ made)) (sym (needs (waiting ++ done) rec))
        (subst (λ (l : List Record). waiting_length ((waiting ++ done) ++ rec ∷ []) ≤ waiting_length l) (whole is) (shorter ((waiting ++ done) ++ rec ∷ []) more)))
      where
        whole : made ≡ done ++ rec ∷ more → ((waiting ++ done) ++ rec ∷ []) ++ more ≡ waiting ++ made
        whole is = append_assoc (waiting ++ done) (rec ∷ []) more ∙ (append_assoc waiting done (rec ∷ more) ∙ ap (λ (l : List Record). waiting ++ l) (sym is))
