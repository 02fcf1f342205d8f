-- What a server served of a transaction, and what its last vote covers, only grows while its node is involved: so a vote of a step covers at least all that was served as the step began,
-- and the last vote covers at least as much as each Prepare.
use Rattle.qs_world_runs.proofs.Words.{◌≡◌, ◌≢◌, ℕ, ◌<◌, ◌≤◌, ◌==◌, ◌+◌, ◌||◌, ◌++◌, append-nil, append_assoc, arith, Bool, true, false, List, [], Option, Some, None, length, nat_lt, refl, sym, ap, subst, ◌∙◌, if◌then◌else◌, eqb-true, or_left, nat_tests, ⊤, lookup, is_at, same_tid-true, same_tid, tid_cmp, ServerNo, Tid, last_number, Record, Work, with_manager, class_here, is_told_class, no_member, member_of, with_member, MemberPart, Participant, Every, is_kept, every_on, every_append}
use Rattle.qs_book_laws.proofs.Maps.{lookup_changed}
use Rattle.qs_record.specs.declared.record.Record.TheVariants as made
use Rattle.qs_node_step.specs.State.{part_of}
use Rattle.qs_tm.specs.Manager as tm
use Rattle.qs_tm.specs.Outcomes as outcome_rules
use Rattle.qs_tm.specs.Participant as participant
use Rattle.qs_tm.specs.declared.members.Cast.{Cast}
use Rattle.qs_world_refine.proofs.Frames.{part_apart}
use Rattle.qs_world_lawful.proofs.Parts.{set_size, with_other, with_own}
use Rattle.qs_world_runs.proofs.FewShares.{each_set}
use Rattle.qs_world_runs.proofs.Goes.{Steady}
use Rattle.qs_base_lemmas.proofs.Tests.{le_one_more}

module _ (t : Tid) (s : ServerNo) (low : s.0 < 7) where
  -- its last vote covers at least c, and it served at least z
  pub record Ahead (c z : ℕ) (p : Participant) : Type 0 where
    pub sized : length p.members ≡ 7
    pub involved : p.involved ≡ true
    pub cast : Cast
    pub vote : (member_of p s).vote ≡ Some cast
    pub least : c ≤ cast.covers
    pub most : cast.covers ≤ (member_of p s).served
    pub more : z ≤ (member_of p s).served

  pub record IsAheadAt (c z : ℕ) (work : Work) : Type 0 where
    pub part : Participant
    pub known : part_of t work ≡ Some part
    pub ahead : Ahead c z part

  -- a Prepare of it covers at least all that was served, and its last vote as much
  abbrev pub IsCastIn : Work → Work → Record → Type 0
  IsCastIn work new (made.Prepare tid server covers changes) = same_tid tid t ≡ true → (server.0 == s.0) ≡ true → IsAheadAt covers 0 new × ((c z : ℕ) → IsAheadAt c z work → z ≤ covers)
  IsCastIn work new rec = ⊤

  abbrev pub AreSized : Work → Type 0
  AreSized work = Every (λ (e : Tid × Participant). length e.1.members ≡ 7) work.node.manager.known

  pub record Counts (work new : Work) : Type 0 where
    pub made : List Record
    pub records : new.out.records ≡ work.out.records ++ made
    pub keeps : (c z : ℕ) → IsAheadAt c z work → IsAheadAt c z new
    pub sized : AreSized work → AreSized new
    pub votes : AreSized work → Every (IsCastIn work new) made

  -- ---- rules in a row

  cast_on : (work mid new : Work) → ((c z : ℕ) → IsAheadAt c z mid → IsAheadAt c z new) → (rec : Record) → IsCastIn work mid rec → IsCastIn work new rec
  cast_on work mid new keeps (made.Prepare tid server covers changes) cast = λ its at. let p = cast its at in (keeps covers 0 p.0, p.1)
  cast_on work mid new keeps (made.Commit tid told) cast = tt
  cast_on work mid new keeps (made.Aborted tid) cast = tt
  cast_on work mid new keeps (made.End tid) cast = tt

  cast_since : (work mid new : Work) → ((c z : ℕ) → IsAheadAt c z work → IsAheadAt c z mid) → (rec : Record) → IsCastIn mid new rec → IsCastIn work new rec
  cast_since work mid new keeps (made.Prepare tid server covers changes) cast = λ its at. let p = cast its at in (p.0, λ c z ahead. p.1 c z (keeps c z ahead))
  cast_since work mid new keeps (made.Commit tid told) cast = tt
  cast_since work mid new keeps (made.Aborted tid) cast = tt
  cast_since work mid new keeps (made.End tid) cast = tt

  pub both_count : (work mid new : Work) → Counts work mid → Counts mid new → Counts work new
  both_count work mid new a b = record {
    made = a.made ++ b.made;
    records = b.records ∙ (ap (λ (rs : List Record). rs ++ b.made) a.records ∙ append_assoc work.out.records a.made b.made);
    keeps = λ c z ahead. b.keeps c z (a.keeps c z ahead);
    sized = λ all. b.sized (a.sized all);
    votes = λ all. every_append (IsCastIn work new) a.made b.made (every_on (IsCastIn work mid) (IsCastIn work new) (cast_on work mid new b.keeps) a.made (a.votes all))
        (every_on (IsCastIn mid new) (IsCastIn work new) (cast_since work mid new a.keeps) b.made (b.votes (a.sized all)));
  }

  -- ---- what makes no record

  pub quiet_count : (work new : Work) → new.out.records ≡ work.out.records → ((c z : ℕ) → IsAheadAt c z work → IsAheadAt c z new) → (AreSized work → AreSized new) → Counts work new
  quiet_count work new same keeps sized = record { made = []; records = same ∙ sym (append-nil work.out.records); keeps = keeps; sized = sized; votes = λ all. tt }

  abbrev Known : List (Tid × Participant) → ℕ → ℕ → Type 0
  Known es c z = (p : Participant) × (lookup (is_at (tid_cmp t)) es ≡ Some p) × Ahead c z p

  pub still_count : (work new : Work) → new.out.records ≡ work.out.records → new.node.manager.known ≡ work.node.manager.known → Counts work new
  still_count work new same known = quiet_count work new same
      (λ c z ahead. let k : Known new.node.manager.known c z = subst (λ (es : List (Tid × Participant)). Known es c z) (sym known) (ahead.part, ahead.known, ahead.ahead) in record { part = k.0; known = k.1; ahead = k.2 })
      (λ all. subst (λ (es : List (Tid × Participant)). Every (λ (e : Tid × Participant). length e.1.members ≡ 7) es) (sym known) all)

  -- ---- a change of what is kept of one transaction

  pub sized_changed : (tid : Tid) (f : Participant → Participant) (work : Work) → ((p : Participant) → length (f p).members ≡ length p.members) → AreSized work → AreSized (with_manager (tm.with_part tid f) work)
  sized_changed tid f work size all = by (part_of tid work) refl
    where
      by : (o : Option Participant) → part_of tid work ≡ o → AreSized (with_manager (tm.with_part tid f) work)
      by None none = subst (λ (es : List (Tid × Participant)). Every (λ (e : Tid × Participant). length e.1.members ≡ 7) es) (sym (ap (λ (o : Option Participant). elim o [ None ↦ work.node.manager.known | Some v ↦ Rattle.std.specs.Map.set_value (is_at (tid_cmp tid)) work.node.manager.known (f v) ]) none)) all
      by (Some part) known = subst (λ (es : List (Tid × Participant)). Every (λ (e : Tid × Participant). length e.1.members ≡ 7) es) (sym (ap (λ (o : Option Participant). elim o [ None ↦ work.node.manager.known | Some v ↦ Rattle.std.specs.Map.set_value (is_at (tid_cmp tid)) work.node.manager.known (f v) ]) known))
          (each_set (λ (e : Tid × Participant). length e.1.members ≡ 7) (is_at (tid_cmp tid)) f (λ k v at is. size v ∙ is) work.node.manager.known all part known)

  pub keeps_changed : (tid : Tid) (f : Participant → Participant) (work : Work) → ((p : Participant) → part_of tid work ≡ Some p → same_tid t tid ≡ true → (c z : ℕ) → Ahead c z p → Ahead c z (f p)) → (c z : ℕ) → IsAheadAt c z work → IsAheadAt c z (with_manager (tm.with_part tid f) work)
  keeps_changed tid f work own c z ahead = by (same_tid t tid) refl
    where
      by : (b : Bool) → same_tid t tid ≡ b → IsAheadAt c z (with_manager (tm.with_part tid f) work)
      by false far = record { part = ahead.part; known = part_apart t tid f work.node.manager far ∙ ahead.known; ahead = ahead.ahead }
      by true same =
          let e : t ≡ tid = same_tid-true t tid same in
          let known : part_of tid work ≡ Some ahead.part = subst (λ (x : Tid). part_of x work ≡ Some ahead.part) e ahead.known in
          record { part = f ahead.part; known = subst (λ (x : Tid). part_of x (with_manager (tm.with_part tid f) work) ≡ Some (f ahead.part)) (sym e) (lookup_changed (is_at (tid_cmp tid)) f work.node.manager.known ahead.part known); ahead = own ahead.part known same c z ahead.ahead }

  pub changed_count : (tid : Tid) (f : Participant → Participant) (work : Work) → ((p : Participant) → part_of tid work ≡ Some p → same_tid t tid ≡ true → (c z : ℕ) → Ahead c z p → Ahead c z (f p)) → ((p : Participant) → length (f p).members ≡ length p.members) → Counts work (with_manager (tm.with_part tid f) work)
  changed_count tid f work own size = quiet_count work (with_manager (tm.with_part tid f) work) refl (keeps_changed tid f work own) (sized_changed tid f work size)

  -- what leaves its members
  pub ahead_steady : (p q : Participant) → Steady p q → (c z : ℕ) → Ahead c z p → Ahead c z q
  ahead_steady p q steady c z a = record {
    sized = ap length steady.members ∙ a.sized;
    involved = steady.involved a.involved;
    cast = a.cast;
    vote = ap (λ (ms : List MemberPart). (member_at ms).vote) steady.members ∙ a.vote;
    least = a.least;
    most = subst (λ (ms : List MemberPart). a.cast.covers ≤ (member_at ms).served) (sym steady.members) a.most;
    more = subst (λ (ms : List MemberPart). z ≤ (member_at ms).served) (sym steady.members) a.more;
  }
    where
      member_at : List MemberPart → MemberPart
      member_at ms = Rattle.std.specs.Prelude.slice_index_or ms s.0 no_member

  pub part_count : (tid : Tid) (f : Participant → Participant) (work : Work) → ((p : Participant) → Steady p (f p)) → Counts work (with_manager (tm.with_part tid f) work)
  part_count tid f work steady = changed_count tid f work (λ p known same. ahead_steady p (f p) (steady p)) (λ p. ap length (steady p).members)

  -- ---- one of its members changes

  pub kept_is : is_kept s ≡ true
  kept_is = lower s.0 low
    where
      lower : (n : ℕ) → n < 7 → nat_lt n 7 ≡ true
      lower n e = grind (arith, nat_tests, e)

  -- a server with that number is that one
  pub one_server : (server : ServerNo) → (server.0 == s.0) ≡ true → server ≡ s
  one_server server is = ap (λ (n : ℕ). record { 0 = n }) (eqb-true server.0 s.0 is)

  differ : (server : ServerNo) → (server.0 == s.0) ≡ false → server.0 ≢ s.0
  differ server is e = let on : (server.0 == s.0) ≡ true = grind (arith, nat_tests, e) in cc (on, is)

  -- where its member then is so
  pub record IsLater (c z : ℕ) (m : MemberPart) : Type 0 where
    pub cast : Cast
    pub vote : m.vote ≡ Some cast
    pub least : c ≤ cast.covers
    pub most : cast.covers ≤ m.served
    pub more : z ≤ m.served

  pub ahead_with : (server : ServerNo) (m : MemberPart) (p q : Participant) → q.members ≡ (with_member server m p).members → (p.involved ≡ true → q.involved ≡ true) → (c z : ℕ) → Ahead c z p → (server ≡ s → IsLater c z m) → Ahead c z q
  ahead_with server m p q same involved c z a own = by (server.0 == s.0) refl
    where
      sized_now : length q.members ≡ 7
      sized_now = ap length same ∙ (set_size server.0 m p.members ∙ a.sized)

      member_q : member_of q s ≡ member_of (with_member server m p) s
      member_q = ap (λ (ms : List MemberPart). Rattle.std.specs.Prelude.slice_index_or ms s.0 no_member) same

      of : (x : MemberPart) → member_of q s ≡ x → IsLater c z x → Ahead c z q
      of x is later = record {
        sized = sized_now;
        involved = involved a.involved;
        cast = later.cast;
        vote = ap (λ (y : MemberPart). y.vote) is ∙ later.vote;
        least = later.least;
        most = subst (λ (y : MemberPart). later.cast.covers ≤ y.served) (sym is) later.most;
        more = subst (λ (y : MemberPart). z ≤ y.served) (sym is) later.more;
      }

      by : (b : Bool) → (server.0 == s.0) ≡ b → Ahead c z q
      by true is = let e : server ≡ s = one_server server is in of m (member_q ∙ subst (λ (x : ServerNo). member_of (with_member x m p) s ≡ m) (sym e) (with_own s m p a.sized kept_is)) (own e)
      by false is = of (member_of p s) (member_q ∙ with_other server s m p (differ server is)) (record { cast = a.cast; vote = a.vote; least = a.least; most = a.most; more = a.more })

  pub served_count_on : (tid : Tid) (server : ServerNo) (work : Work) → Counts work (with_manager (tm.served tid server) work)
  served_count_on tid server work = changed_count tid (participant.served server) work (λ p known same c z a. own p c z a) size
    where
      size : (p : Participant) → length (participant.served server p).members ≡ length p.members
      size p = by ((member_of p server).served == last_number)
        where
          by : (b : Bool) → length (if b then p
              else record (with_member server (record (member_of p server) { served = (member_of p server).served + 1; fresh = true }) p) { involved = p.involved || is_told_class (class_here server) }).members ≡ length p.members
          by true = refl
          by false = set_size server.0 _ p.members

      own : (p : Participant) (c z : ℕ) → Ahead c z p → Ahead c z (participant.served server p)
      own p c z a = by ((member_of p server).served == last_number)
        where
          m : MemberPart
          m = record (member_of p server) { served = (member_of p server).served + 1; fresh = true }

          later : server ≡ s → IsLater c z m
          later e = subst (λ (x : ServerNo). IsLater c z (record (member_of p x) { served = (member_of p x).served + 1; fresh = true })) (sym e)
              (record { cast = a.cast; vote = a.vote; least = a.least; most = le_one_more a.cast.covers (member_of p s).served a.most; more = le_one_more z (member_of p s).served a.more })

          by : (b : Bool) → Ahead c z (if b then p
              else record (with_member server (record (member_of p server) { served = (member_of p server).served + 1; fresh = true }) p) { involved = p.involved || is_told_class (class_here server) })
          by true = a
          by false = ahead_with server m p (record (with_member server m p) { involved = p.involved || is_told_class (class_here server) }) refl (or_left p.involved (is_told_class (class_here server))) c z a later

  pub settled_count : (tid : Tid) (server : ServerNo) (work : Work) → Counts work (with_manager (tm.settled tid server) work)
  settled_count tid server work = changed_count tid (outcome_rules.settled server) work own (λ p. set_size server.0 _ p.members)
    where
      own : (p : Participant) → part_of tid work ≡ Some p → same_tid t tid ≡ true → (c z : ℕ) → Ahead c z p → Ahead c z (outcome_rules.settled server p)
      own p known same c z a = ahead_with server (record (member_of p server) { fresh = false }) p (outcome_rules.settled server p) refl (λ is. is) c z a
          (λ e. subst (λ (x : ServerNo). IsLater c z (record (member_of p x) { fresh = false })) (sym e) (record { cast = a.cast; vote = a.vote; least = a.least; most = a.most; more = a.more }))
