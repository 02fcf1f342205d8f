-- What a node knows of its log stands while of each transaction the record marks, the outcome and the involvement stay.
use Rattle.qs_world_lawful.proofs.Words.{◌≡◌, inl, inr, Bool, true, false, List, [], ◌∷◌, Option, Some, None, refl, sym, ap, subst, ◌∙◌, ⊤, lookup, set_value, is_at, Equal, tid_cmp, tid_total, Tid, at_exact, tid_itself, Either, changed_either, lookup_put, lookup_put_apart, IsBelow, IsRising, put_rises, BookValue, Prepared, Recovery, Manager, Participant, InLog, Later, IsPrepared, IsKnown, KeepsRecords, KnowsLog}
use Rattle.qs_tm.specs.Manager as tm
use Rattle.qs_world_lawful.proofs.LogFrames.{every_on}

-- what goes for one transaction
pub record SameMarks (old new : Participant) : Type 0 where
  pub log : new.log ≡ old.log
  pub outcome : new.outcome ≡ old.outcome
  pub involved : old.involved ≡ true → new.involved ≡ true

-- nothing of it is in the log
pub record IsUnmarked (part : Participant) : Type 0 where
  pub prepared : part.log.prepared ≡ false
  pub listed : part.log.listed ≡ false

abbrev pub MarksOn : Option Participant → Option Participant → Type 0
MarksOn None None = ⊤
MarksOn None (Some new) = IsUnmarked new
MarksOn (Some old) None = ⊥
MarksOn (Some old) (Some new) = SameMarks old new

pub record KnowsOn (old new : Manager) : Type 0 where
  pub rises : IsRising tid_cmp old.known → IsRising tid_cmp new.known
  pub marks : (tid : Tid) → MarksOn (tm.part_of tid old) (tm.part_of tid new)

pub same_marks : (part : Participant) → SameMarks part part
same_marks part = record { log = refl; outcome = refl; involved = λ is. is }

marks_self : (o : Option Participant) → MarksOn o o
marks_self None = tt
marks_self (Some part) = same_marks part

pub marks_equal : (o p : Option Participant) → p ≡ o → MarksOn o p
marks_equal o p e = subst (λ (q : Option Participant). MarksOn o q) (sym e) (marks_self o)

pub marks_then : (o p q : Option Participant) → MarksOn o p → MarksOn p q → MarksOn o q
marks_then None None None a b = tt
marks_then None None (Some z) a b = b
marks_then None (Some y) None a b = absurd b
marks_then None (Some y) (Some z) a b = record { prepared = ap (λ (l : InLog). l.prepared) b.log ∙ a.prepared; listed = ap (λ (l : InLog). l.listed) b.log ∙ a.listed }
marks_then (Some x) None q a b = absurd a
marks_then (Some x) (Some y) None a b = absurd b
marks_then (Some x) (Some y) (Some z) a b = record { log = b.log ∙ a.log; outcome = b.outcome ∙ a.outcome; involved = λ is. b.involved (a.involved is) }

pub knows_self : (manager : Manager) → KnowsOn manager manager
knows_self manager = record { rises = λ is. is; marks = λ tid. marks_self (tm.part_of tid manager) }

pub knows_then : (old mid new : Manager) → KnowsOn old mid → KnowsOn mid new → KnowsOn old new
knows_then old mid new a b = record {
  rises = λ is. b.rises (a.rises is);
  marks = λ tid. marks_then (tm.part_of tid old) (tm.part_of tid mid) (tm.part_of tid new) (a.marks tid) (b.marks tid);
}

-- ---- changes of what is known

set_below : (x : Tid) (test : Tid → Bool) (es : List (Tid × Participant)) (p : Participant) → IsBelow tid_cmp x es → IsBelow tid_cmp x (set_value test es p)
set_below x test [] p below = tt
set_below x test (e ∷ es) p below = by (test e.0) refl (set_below x test es p below.1)
  where
    by : (b : Bool) → test e.0 ≡ b → IsBelow tid_cmp x (set_value test es p) → IsBelow tid_cmp x (set_value test (e ∷ es) p)
    by true is more = rw is below
    by false is more = rw is (below.0, more)

set_rises : (test : Tid → Bool) (es : List (Tid × Participant)) (p : Participant) → IsRising tid_cmp es → IsRising tid_cmp (set_value test es p)
set_rises test [] p rising = tt
set_rises test (e ∷ es) p rising = by (test e.0) refl (set_rises test es p rising.1)
  where
    by : (b : Bool) → test e.0 ≡ b → IsRising tid_cmp (set_value test es p) → IsRising tid_cmp (set_value test (e ∷ es) p)
    by true is more = rw is rising
    by false is more = rw is (set_below e.0 test es p rising.0, more)

pub changed_rises : (tid : Tid) (f : Participant → Participant) (manager : Manager) → IsRising tid_cmp manager.known → IsRising tid_cmp (tm.with_part tid f manager).known
changed_rises tid f manager rising = by (lookup (is_at (tid_cmp tid)) manager.known)
  where
    by : (o : Option Participant) → IsRising tid_cmp (elim o [ None ↦ manager.known | Some v ↦ set_value (is_at (tid_cmp tid)) manager.known (f v) ])
    by None = rising
    by (Some v) = set_rises (is_at (tid_cmp tid)) manager.known (f v) rising

-- a change of each that keeps the marks
pub part_on : (tid : Tid) (f : Participant → Participant) → ((part : Participant) → SameMarks part (f part)) → (manager : Manager) → KnowsOn manager (tm.with_part tid f manager)
part_on tid f keeps manager = record { rises = changed_rises tid f manager; marks = λ t. by t (tm.part_of tid manager) refl }
  where
    at : (t : Tid) (v : Participant) → Either (tm.part_of t manager) (tm.part_of t (tm.with_part tid f manager)) v (f v) → MarksOn (tm.part_of t manager) (tm.part_of t (tm.with_part tid f manager))
    at t v (inl same) = marks_equal (tm.part_of t manager) (tm.part_of t (tm.with_part tid f manager)) same
    at t v (inr now) = rw (now.0, now.1) (keeps v)

    by : (t : Tid) (o : Option Participant) → tm.part_of tid manager ≡ o → MarksOn (tm.part_of t manager) (tm.part_of t (tm.with_part tid f manager))
    by t None is = marks_equal (tm.part_of t manager) (tm.part_of t (tm.with_part tid f manager))
        (subst (λ (o : Option Participant). lookup (is_at (tid_cmp t)) (elim o [ None ↦ manager.known | Some v ↦ set_value (is_at (tid_cmp tid)) manager.known (f v) ]) ≡ tm.part_of t manager) (sym is) refl)
    by t (Some v) is = at t v (changed_either (is_at (tid_cmp tid)) (is_at (tid_cmp t)) f manager.known v is)

-- of what is not known nothing is changed
pub part_none : (tid : Tid) (f : Participant → Participant) (manager : Manager) → tm.part_of tid manager ≡ None → KnowsOn manager (tm.with_part tid f manager)
part_none tid f manager none = record {
  rises = changed_rises tid f manager;
  marks = λ t. marks_equal (tm.part_of t manager) (tm.part_of t (tm.with_part tid f manager))
      (subst (λ (o : Option Participant). lookup (is_at (tid_cmp t)) (elim o [ None ↦ manager.known | Some v ↦ set_value (is_at (tid_cmp tid)) manager.known (f v) ]) ≡ tm.part_of t manager) (sym none) refl);
}

-- every other transaction is known as before
pub put_apart : (tid t : Tid) (part : Participant) (manager : Manager) → is_at (tid_cmp t) tid ≡ false → tm.part_of t (tm.put_part tid part manager) ≡ tm.part_of t manager
put_apart tid t part manager far = lookup_put_apart tid_cmp tid part (λ x same. at_exact tid x (is_equal x same)) (is_at (tid_cmp t)) far manager.known
  where
    is_equal : (x : Tid) → tid_cmp tid x ≡ Equal → is_at (tid_cmp tid) x ≡ true
    is_equal x same = rw same refl

pub put_there : (tid : Tid) (part : Participant) (manager : Manager) → tm.part_of tid (tm.put_part tid part manager) ≡ Some part
put_there tid part manager = lookup_put tid_cmp tid part (tid_itself tid) manager.known

-- one more is known, of which nothing is in the log
pub put_on : (tid : Tid) (part : Participant) → IsUnmarked part → (manager : Manager) → tm.part_of tid manager ≡ None → KnowsOn manager (tm.put_part tid part manager)
put_on tid part none manager new = record { rises = put_rises tid_cmp tid_total tid part manager.known; marks = λ t. by t (is_at (tid_cmp t) tid) refl }
  where
    by : (t : Tid) (b : Bool) → is_at (tid_cmp t) tid ≡ b → MarksOn (tm.part_of t manager) (tm.part_of t (tm.put_part tid part manager))
    by t true same =
        let e : t ≡ tid = at_exact t tid same in
        subst (λ (x : Tid). MarksOn (tm.part_of x manager) (tm.part_of x (tm.put_part tid part manager))) (sym e) (rw (new, put_there tid part manager) none)
    by t false far = marks_equal (tm.part_of t manager) (tm.part_of t (tm.put_part tid part manager)) (put_apart tid t part manager far)

-- ---- what is known of the log

pub known_marks : (vote : Prepared) (old new : Manager) → MarksOn (tm.part_of vote.tid old) (tm.part_of vote.tid new) → IsKnown old vote → IsKnown new vote
known_marks vote old new on is named undone = by (tm.part_of vote.tid old) (tm.part_of vote.tid new) on (is named undone)
  where
    by : (o p : Option Participant) → MarksOn o p → IsPrepared o → IsPrepared p
    by None p a k = absurd k
    by (Some x) None a k = absurd a
    by (Some x) (Some y) a k = ap (λ (l : InLog). l.prepared) a.log ∙ k

-- what is kept of the records of a transaction whose marks stay
pub keeps_marks : (before book : BookValue) (log : Recovery) → Later before book → (tid : Tid) (part : Participant) (o : Option Participant) → MarksOn o (Some part) → ((was : Participant) → o ≡ Some was → KeepsRecords before log tid was) → KeepsRecords book log tid part
keeps_marks before book log later tid part None none h = record {
  involved = λ p. never part.log.prepared none.prepared p;
  undone = λ p. never part.log.prepared none.prepared p;
  aborted = λ p. never part.log.prepared none.prepared p;
  listed = λ p. never part.log.listed none.listed p;
  committed = λ p. never part.log.listed none.listed p;
  has_commit = λ p. never part.log.listed none.listed p;
}
  where
    never : {X : Type 0} (b : Bool) → b ≡ false → b ≡ true → X
    never b no_b yes_b = absurd (cc (no_b, yes_b))
keeps_marks before book log later tid part (Some was) same h =
    let k : KeepsRecords before log tid was = h was refl in
    let prepared : part.log.prepared ≡ was.log.prepared = ap (λ (l : InLog). l.prepared) same.log in
    let listed : part.log.listed ≡ was.log.listed = ap (λ (l : InLog). l.listed) same.log in
    record {
      involved = λ p. same.involved (k.involved (sym prepared ∙ p));
      undone = λ p o. k.undone (sym prepared ∙ p) (sym same.outcome ∙ o);
      aborted = λ p o. later.aborted tid (k.aborted (sym prepared ∙ p) (sym same.outcome ∙ o));
      listed = λ p. same.outcome ∙ k.listed (sym listed ∙ p);
      committed = λ p. later.committed tid (k.committed (sym listed ∙ p));
      has_commit = λ p. k.has_commit (sym listed ∙ p);
    }

pub knows_on : (before book : BookValue) (old new : Manager) (log : Recovery) → Later before book → KnowsOn old new → KnowsLog before old log → KnowsLog book new log
knows_on before book old new log later on h = record {
  rising = on.rises h.rising;
  votes = every_on (IsKnown old) (IsKnown new) (λ vote. known_marks vote old new (on.marks vote.tid)) log.prepared h.votes;
  parts = λ tid part is. keeps_marks before book log later tid part (tm.part_of tid old) (subst (λ (o : Option Participant). MarksOn (tm.part_of tid old) o) is (on.marks tid)) (h.parts tid);
}
