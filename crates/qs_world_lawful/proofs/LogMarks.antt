-- What a node knows of its log where a rule changes what is kept of one transaction, and makes a record of it.
use Rattle.qs_world_lawful.proofs.Words.{◌≡◌, Bool, true, false, List, [], ◌∷◌, ◌++◌, Option, Some, None, refl, sym, ap, subst, ◌∙◌, map, append_assoc, true≢false, fold-append, not, if◌then◌else◌, is_at, filter, tid_cmp, same_tid, Tid, same_tid-true, same_tid-self, at_exact, tid_itself, changed_apart, lookup_changed, IsRising, BookValue, is_among, Record, Prepared, Recovery, recovery, nothing_said, found_record, mark_committed, Manager, Participant, Every, Later, IsPrepared, IsKnown, KeepsRecords}
use Rattle.qs_world_lawful.proofs.Words.{KnowsLog, not-true, both_ways, some_same}
use Rattle.qs_restart.specs.Recovery.{is_of}
use Rattle.qs_tm.specs.Manager as tm
use Rattle.qs_world_lawful.proofs.Marks.{SameMarks, MarksOn, KnowsOn, marks_equal, marks_then, known_marks, keeps_marks, changed_rises}

-- one more record
pub one_more : (disk waiting records : List Record) (rec : Record) → recovery (disk ++ (waiting ++ (records ++ rec ∷ []))) ≡ found_record (recovery (disk ++ (waiting ++ records))) rec
one_more disk waiting records rec =
    ap recovery (ap (λ (rs : List Record). disk ++ rs) (sym (append_assoc waiting records (rec ∷ []))) ∙ sym (append_assoc disk (waiting ++ records) (rec ∷ [])))
    ∙ fold-append found_record nothing_said (disk ++ (waiting ++ records)) (rec ∷ [])

-- what is kept of one transaction changes
pub record ChangesPart (tid : Tid) (old new : Manager) (was is : Participant) : Type 0 where
  pub rises : IsRising tid_cmp old.known → IsRising tid_cmp new.known
  pub before : tm.part_of tid old ≡ Some was
  pub now : tm.part_of tid new ≡ Some is
  pub others : (t : Tid) → is_at (tid_cmp t) tid ≡ false → MarksOn (tm.part_of t old) (tm.part_of t new)

pub turned : (t tid : Tid) → is_at (tid_cmp t) tid ≡ false → (k : Tid) → is_at (tid_cmp t) k ≡ true → is_at (tid_cmp tid) k ≡ false
turned t tid far k is = by (is_at (tid_cmp tid) k) refl
  where
    by : (b : Bool) → is_at (tid_cmp tid) k ≡ b → b ≡ false
    by false at = refl
    by true at =
        let e : t ≡ tid = at_exact t k is ∙ sym (at_exact tid k at) in
        absurd (no_self t (subst (λ (x : Tid). is_at (tid_cmp t) x ≡ false) (sym e) far))
      where
        itself : (x : Tid) → is_at (tid_cmp x) x ≡ true
        itself x = rw (tid_itself x) refl

        no_self : (x : Tid) → is_at (tid_cmp x) x ≡ false → ⊥
        no_self x off = cc (sym (itself x) ∙ off)

pub changes_part : (tid : Tid) (f : Participant → Participant) (manager : Manager) (part : Participant) → tm.part_of tid manager ≡ Some part → ChangesPart tid manager (tm.with_part tid f manager) part (f part)
changes_part tid f manager part known = record {
  rises = changed_rises tid f manager;
  before = known;
  now = lookup_changed (is_at (tid_cmp tid)) f manager.known part known;
  others = λ t far. marks_equal (tm.part_of t manager) (tm.part_of t (tm.with_part tid f manager)) (changed_apart (is_at (tid_cmp tid)) (is_at (tid_cmp t)) (turned t tid far) f manager.known);
}

pub changes_then : (tid : Tid) (old mid new : Manager) (x y z : Participant) → ChangesPart tid old mid x y → ChangesPart tid mid new y z → ChangesPart tid old new x z
changes_then tid old mid new x y z a b = record {
  rises = λ is. b.rises (a.rises is);
  before = a.before;
  now = b.now;
  others = λ t far. marks_then (tm.part_of t old) (tm.part_of t mid) (tm.part_of t new) (a.others t far) (b.others t far);
}

-- and the marks of it stay
pub changes_on : (tid : Tid) (old mid new : Manager) (x y : Participant) → ChangesPart tid old mid x y → KnowsOn mid new → (z : Participant) × ChangesPart tid old new x z × SameMarks y z
changes_on tid old mid new x y a on = by (tm.part_of tid new) refl (subst (λ (o : Option Participant). MarksOn o (tm.part_of tid new)) a.now (on.marks tid))
  where
    by : (o : Option Participant) → tm.part_of tid new ≡ o → MarksOn (Some y) (tm.part_of tid new) → (z : Participant) × ChangesPart tid old new x z × SameMarks y z
    by None is marks = absurd (subst (λ (o : Option Participant). MarksOn (Some y) o) is marks)
    by (Some z) is marks = (
      z,
      record { rises = λ rising. on.rises (a.rises rising); before = a.before; now = is; others = λ t far. marks_then (tm.part_of t old) (tm.part_of t mid) (tm.part_of t new) (a.others t far) (on.marks t) },
      subst (λ (o : Option Participant). MarksOn (Some y) o) is marks,
    )

pub apart_is : (t tid : Tid) → same_tid t tid ≡ false → is_at (tid_cmp t) tid ≡ false
apart_is t tid far = by (is_at (tid_cmp t) tid) refl
  where
    by : (b : Bool) → is_at (tid_cmp t) tid ≡ b → b ≡ false
    by false at = refl
    by true at = absurd (cc (sym (subst (λ (x : Tid). same_tid t x ≡ true) (at_exact t tid at) (same_tid-self t)) ∙ far))

every_passing : {A : Type 0} (P Q : A → Type 0) (p : A → Bool) → ((x : A) → p x ≡ true → P x → Q x) → (xs : List A) → Every P xs → Every Q (filter p xs)
every_passing P Q p gives [] h = tt
every_passing P Q p gives (x ∷ xs) h = by (p x) refl (every_passing P Q p gives xs h.1)
  where
    by : (b : Bool) → p x ≡ b → Every Q (filter p xs) → Every Q (filter p (x ∷ xs))
    by true is more = rw is (gives x is h.0, more)
    by false is more = rw is more

module _ (tid : Tid) (old new : Manager) (was now : Participant) (c : ChangesPart tid old new was now) where
  -- a vote of another transaction
  known_apart : (vote : Prepared) → same_tid vote.tid tid ≡ false → IsKnown old vote → IsKnown new vote
  known_apart vote far is = known_marks vote old new (c.others vote.tid (apart_is vote.tid tid far)) is

  -- where it is known as prepared, each vote of it is known
  pub known_prepared : now.log.prepared ≡ true → (vote : Prepared) → IsKnown old vote → IsKnown new vote
  known_prepared marked vote is named undone = by (same_tid vote.tid tid) refl
    where
      by : (b : Bool) → same_tid vote.tid tid ≡ b → IsPrepared (tm.part_of vote.tid new)
      by true same = subst (λ (t : Tid). IsPrepared (tm.part_of t new)) (sym (same_tid-true vote.tid tid same)) (subst IsPrepared (sym c.now) marked)
      by false far = known_apart vote far is named undone

  -- where it was not prepared, none of its votes is in doubt
  pub known_unprepared : was.log.prepared ≡ false → (vote : Prepared) → IsKnown old vote → IsKnown new vote
  known_unprepared unmarked vote is = by (same_tid vote.tid tid) refl
    where
      by : (b : Bool) → same_tid vote.tid tid ≡ b → IsKnown new vote
      by true same = λ named undone. absurd (both_ways was.log.prepared unmarked (subst IsPrepared c.before (subst (λ (t : Tid). IsPrepared (tm.part_of t old)) (same_tid-true vote.tid tid same) (is named undone))))
      by false far = known_apart vote far is

  pub own_known : now.log.prepared ≡ true → (vote : Prepared) → vote.tid ≡ tid → IsKnown new vote
  own_known marked vote same named undone = subst (λ (t : Tid). IsPrepared (tm.part_of t new)) (sym same) (subst IsPrepared (sym c.now) marked)

  -- where its votes are ended, those of others stay known
  pub known_ended : (votes : List Prepared) → Every (IsKnown old) votes → Every (IsKnown new) (filter (λ vote. not (is_of tid vote)) votes)
  known_ended votes all = every_passing (IsKnown old) (IsKnown new) (λ vote. not (is_of tid vote)) (λ vote passes is. known_apart vote (not_same vote passes) is) votes all
    where
      not_same : (vote : Prepared) → not (is_of tid vote) ≡ true → same_tid vote.tid tid ≡ false
      not_same vote passes = not-true (same_tid vote.tid tid) passes

  -- and where a Commit with a list marks them
  pub known_marked : (votes : List Prepared) → Every (IsKnown old) votes → Every (IsKnown new) (map (mark_committed tid) votes)
  known_marked [] all = tt
  known_marked (vote ∷ votes) all = (by (is_of tid vote) refl, known_marked votes all.1)
    where
      by : (b : Bool) → is_of tid vote ≡ b → IsKnown new (if b then record vote { committed = true } else vote)
      by true same = λ named undone. absurd (true≢false undone)
      by false far = known_apart vote far all.0

  module _ (book later : BookValue) (on : Later book later) (log longer : Recovery) where
    pub knows_changed : ((t : Tid) → is_among log.committed t ≡ true → is_among longer.committed t ≡ true) → KeepsRecords later longer tid now → Every (IsKnown new) longer.prepared → KnowsLog book old log → KnowsLog later new longer
    knows_changed grows own votes h = record {
      rising = c.rises h.rising;
      votes = votes;
      parts = λ t part is. by t part is (is_at (tid_cmp t) tid) refl;
    }
      where
        more : (t : Tid) (part : Participant) → KeepsRecords later log t part → KeepsRecords later longer t part
        more t part k = record { involved = k.involved; undone = k.undone; aborted = k.aborted; listed = k.listed; committed = k.committed; has_commit = λ is. grows t (k.has_commit is) }

        by : (t : Tid) (part : Participant) → tm.part_of t new ≡ Some part → (b : Bool) → is_at (tid_cmp t) tid ≡ b → KeepsRecords later longer t part
        by t part is true same =
            let e : t ≡ tid = at_exact t tid same in
            let own_is : now ≡ part = some_same (sym c.now ∙ subst (λ (x : Tid). tm.part_of x new ≡ Some part) e is) in
            subst (λ (x : Tid). KeepsRecords later longer x part) (sym e) (subst (λ (p : Participant). KeepsRecords later longer tid p) own_is own)
        by t part is false far = more t part (keeps_marks book later log on t part (tm.part_of t old) (subst (λ (o : Option Participant). MarksOn (tm.part_of t old) o) is (c.others t far)) (h.parts t))
