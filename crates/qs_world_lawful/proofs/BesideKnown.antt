-- What a node keeps of one transaction changes, begins or ends, and nothing is entered: what the machine has beside the node stands on.
use Rattle.qs_world_lawful.proofs.Words.{◌≡◌, ◌⊎◌, inl, inr, ℕ, ◌<◌, ◌^◌, Bool, true, false, Option, Some, None, refl, sym, ap, subst, ◌∙◌, if◌then◌else◌, is_at, ◌&&◌, not, is_some, unwrap_or, tid_cmp, NodeNo, Tid, at_exact, lookup_put, IsRising, removed, tid_itself, BookValue, find_transaction, TransactionValue, is_commit, is_covering, is_outcome, Cell, Work, with_manager, forget, awaits_note, has_noted, member_of, new_participant, MemberPart, Manager, Participant, InRun, HoldsBeside, HoldsEnded}
use Rattle.qs_world_lawful.proofs.Words.{HoldsNotes, HoldsPart, HoldsReads, HoldsStranger, HoldsTidBeside, book_at, at_server, face_of, is_held, part_in, HoldsTid, false≢true}
use Rattle.qs_base.specs.declared.identifiers.Outcome.TheVariants as outcomes
use Rattle.qs_book_machine.specs.Transaction.{is_abort}
use Rattle.qs_book_machine.specs.declared.transaction.Cell.TheVariants as cells
use Rattle.qs_node_step.specs.State.{NodeValue}
use Rattle.qs_tm.specs.Manager as tm
use Rattle.qs_tm.specs.Members as rules
use Rattle.qs_tm.specs.Outcomes as outcome_rules
use Rattle.qs_world_lawful.specs.Face.{Face}
use Rattle.qs_world_lawful.proofs.Apart.{Apart, same_or_apart}
use Rattle.qs_world_lawful.proofs.Begins.{new_member}
use Rattle.qs_world_lawful.proofs.BesideActs.{steps_self}
use Rattle.qs_world_lawful.proofs.BesideGoes.{Goes, beside_alike, goes_still}
use Rattle.qs_world_lawful.proofs.BesideOwn.{own_by}
use Rattle.qs_world_lawful.proofs.BesideParts.{part_ended, part_same, tid_on}
use Rattle.qs_world_lawful.proofs.Faces.{put_apart}
use Rattle.qs_world_lawful.proofs.OtherShares.{removed_apart}
use Rattle.qs_world_lawful.proofs.Truths.{clash, of_some}

-- ---- one transaction, in whatever way

module _ (book : BookValue) (node : NodeValue) (manager : Manager) (ticks : manager.ticks ≡ node.manager.ticks) (tid : Tid) (others : (t : Tid) → Apart tid t → tm.part_of t manager ≡ tm.part_of t node.manager) (h : HoldsBeside book node) where
  abbrev fresh : NodeValue
  fresh = record node { manager = manager }

  pub beside_own : HoldsTidBeside book h.state (record node { manager = manager }) tid → HoldsBeside book (record node { manager = manager })
  beside_own own = record {
    state = h.state;
    there = h.there;
    inc = h.inc;
    owners = h.owners;
    at = λ t. of t (same_or_apart tid t);
    clock = record { ticks = h.clock.ticks ∙ sym ticks; room = subst (λ (k : ℕ). k < 2 ^ 62) (sym ticks) h.clock.room };
  }
    where
      of : (t : Tid) → (tid ≡ t) ⊎ Apart tid t → HoldsTidBeside book h.state fresh t
      of t (inl same) = subst (HoldsTidBeside book h.state fresh) same own
      of t (inr far) = tid_on book book h.state h.state node fresh t refl (λ c is. is) (λ is. is) (steps_self node.setting.node node.setting.inc book t) (λ is. is) (h.at t) (part_same node fresh t (others t far))

  -- one that is known stays so, in whatever way
  pub beside_custom : (tm.part_of tid node.manager ≡ None → tm.part_of tid manager ≡ None)
      → ((tx : TransactionValue) → find_transaction book tid ≡ Some tx → (p : Participant) → tm.part_of tid node.manager ≡ Some p → HoldsPart book h.state node tid tx p
      → (q : Participant) × (tm.part_of tid manager ≡ Some q) × HoldsPart book h.state (record node { manager = manager }) tid tx q) → HoldsBeside book (record node { manager = manager })
  beside_custom none known = beside_own (by (find_transaction book tid) refl)
    where
      by : (o : Option TransactionValue) → find_transaction book tid ≡ o → HoldsTidBeside book h.state fresh tid
      by None is = tid_on book book h.state h.state node fresh tid refl (λ c x. x) (λ x. x) (steps_self node.setting.node node.setting.inc book tid) (λ x. x) (h.at tid)
          (record { none = none; some = λ p at. absurd (clash (sym (ap is_some is) ∙ (h.at tid).stands p at)) })
      by (Some tx) is = own_by book h.state node fresh tid tx is none (λ p at. known tx is p at ((h.at tid).parts tx p is at)) (λ un open_still. (h.at tid).strangers tx is un open_still)
          (λ home back. let e = (h.at tid).ended tx home is in record { committed = e.committed; unknown = λ un kept. e.unknown (back un) kept })

  -- one begins to be known
  pub beside_met : (tx : TransactionValue) → find_transaction book tid ≡ Some tx → (q : Participant) → tm.part_of tid manager ≡ Some q → HoldsPart book h.state (record node { manager = manager }) tid tx q → HoldsBeside book (record node { manager = manager })
  beside_met tx found q known part = beside_own (record {
    stands = λ p at. ap is_some found;
    parts = λ l p at is. subst (λ (x : TransactionValue). HoldsPart book h.state fresh tid x p) (of_some (sym found ∙ at)) (subst (HoldsPart book h.state fresh tid tx) (of_some (sym known ∙ is)) part);
    strangers = λ l at is open_still. absurd (lost (sym known ∙ is));
    unbegun = λ is. absurd (no (sym found ∙ is));
    ended = λ l home at. let e = (h.at tid).ended l home at in record { committed = e.committed; unknown = λ is kept. absurd (lost (sym known ∙ is)) };
  })
    where
      no : {x : TransactionValue} → Some x ≡ None → ⊥
      no e = cc e

      lost : {x : Participant} → Some x ≡ None → ⊥
      lost e = cc e

  -- one is forgotten
  pub beside_left : tm.part_of tid manager ≡ None → ((tx : TransactionValue) → find_transaction book tid ≡ Some tx → (is_commit tx.cell ≡ false → HoldsStranger node.setting.node node.setting.inc tid tx) × (tid.home ≡ node.setting.node → HoldsEnded (record node { manager = manager }) tid tx))
      → HoldsBeside book (record node { manager = manager })
  beside_left gone left = beside_own (record {
    stands = λ p at. absurd (none (sym gone ∙ at));
    parts = λ l p at is. absurd (none (sym gone ∙ is));
    strangers = λ l at is open_still. (left l at).0 open_still;
    unbegun = (h.at tid).unbegun;
    ended = λ l home at. (left l at).1 home;
  })
    where
      none : {x : Participant} → None ≡ Some x → ⊥
      none e = cc e

-- ---- what begins to be known

not_commit : (c : Cell) → is_abort c ≡ true → is_commit c ≡ false
not_commit cells.Open e = refl
not_commit cells.Commit e = absurd (cc e)
not_commit cells.Abort e = refl

module _ (here : NodeNo) (inc : ℕ) (tid : Tid) (tx : TransactionValue) (face : Face) (unknown : face.known ≡ None) (h : HoldsTid here inc tid tx face) (s : HoldsStranger here inc tid tx) (open_still : is_commit tx.cell ≡ false) where
  part_is : part_in face ≡ new_participant false
  part_is = ap (λ (o : Option Participant). unwrap_or o (new_participant false)) unknown

  held : is_held tx face ≡ true
  held = rw (unknown, open_still) refl

  -- no note of it was issued here, or served
  pub new_notes : (q : Participant) → HoldsNotes here inc tid tx q
  new_notes q = record {
    issued = λ count one is. absurd (clash (sym (s.unissued count one) ∙ is));
    served = λ count one is. absurd (of count (h.noted held count one is));
  }
    where
      of : (count : ℕ) → (has_noted count (part_in face) ≡ true) ⊎ (awaits_note (part_in face) ≡ true) → ⊥
      of count (inl is) = false≢true (sym (ap (has_noted count) part_is) ∙ is)
      of count (inr is) = false≢true (sym (ap awaits_note part_is) ∙ is)

  pub new_reads : (home : Bool) → HoldsReads here inc tid tx (new_participant home)
  new_reads home = record {
    readers = λ server kept. record {
      anew = λ two read. subst (λ (m : MemberPart). is_covering tx (at_server here server) inc m.served ≡ true) (ap (λ (p : Participant). member_of p server) part_is ∙ new_member false server) ((h.members held server kept).covers two);
      unfresh = λ two read. ap (λ (m : MemberPart). m.fresh && not (rules.is_let_go m)) (new_member home server);
      told = λ told fresh. absurd (false≢true (sym (ap (λ (m : MemberPart). m.fresh) (new_member home server)) ∙ fresh));
    };
    unchanged = λ read. s.unchanged;
    counted = λ count one is. absurd (clash (sym (s.unissued count one) ∙ is));
  }

-- ---- as steps

module _ (stamp : ℕ) (before : BookValue) (run : InRun before) where
  abbrev On : Work → Work → Type 0
  On work new = Goes stamp before run work new

  pub goes_custom : (work : Work) (tid : Tid) (manager : Manager) → manager.ticks ≡ work.node.manager.ticks → ((t : Tid) → Apart tid t → tm.part_of t manager ≡ tm.part_of t work.node.manager) → (tm.part_of tid work.node.manager ≡ None → tm.part_of tid manager ≡ None)
      → ((h : HoldsBeside (book_at stamp before work) work.node) (tx : TransactionValue) → find_transaction (book_at stamp before work) tid ≡ Some tx → (p : Participant) → tm.part_of tid work.node.manager ≡ Some p → HoldsPart (book_at stamp before work) h.state work.node tid tx p
      → (q : Participant) × (tm.part_of tid manager ≡ Some q) × HoldsPart (book_at stamp before work) h.state (record work.node { manager = manager }) tid tx q) → On work (record work { node = record work.node { manager = manager } })
  goes_custom work tid manager ticks others none known = goes_still stamp before run work (record work { node = record work.node { manager = manager } }) refl refl refl refl
      (λ h. beside_custom (book_at stamp before work) work.node manager ticks tid others h none (known h))

  -- a request makes it known
  pub goes_meet : (work : Work) (tid : Tid) → tm.is_home tid work.node.manager ≡ false
      → (tm.part_of tid work.node.manager ≡ None → (tx : TransactionValue) × (find_transaction (book_at stamp before work) tid ≡ Some tx) × (is_commit tx.cell ≡ false) × HoldsTid work.node.setting.node work.node.setting.inc tid tx (face_of work.node tid))
      → On work (with_manager (tm.meet tid) work)
  goes_meet work tid away there = by (tm.part_of tid work.node.manager) refl
    where
      met : Manager
      met = tm.put_part tid (new_participant (tm.is_home tid work.node.manager)) work.node.manager

      new_part : (h : HoldsBeside (book_at stamp before work) work.node) → tm.part_of tid work.node.manager ≡ None → (tx : TransactionValue) → find_transaction (book_at stamp before work) tid ≡ Some tx → is_commit tx.cell ≡ false
          → HoldsTid work.node.setting.node work.node.setting.inc tid tx (face_of work.node tid) → HoldsPart (book_at stamp before work) h.state (record work.node { manager = met }) tid tx (new_participant (tm.is_home tid work.node.manager))
      new_part h none tx found open_still k =
          let s : HoldsStranger work.node.setting.node work.node.setting.inc tid tx = (h.at tid).strangers tx found none open_still in
          record {
            notes = new_notes work.node.setting.node work.node.setting.inc tid tx (face_of work.node tid) none k s open_still (new_participant (tm.is_home tid work.node.manager));
            asked = λ is. absurd (cc is);
            outcome = λ o is. absurd (cc is);
            causes = λ un. tt;
            reads = λ un. new_reads work.node.setting.node work.node.setting.inc tid tx (face_of work.node tid) none k s open_still (tm.is_home tid work.node.manager);
            begun_at = λ home un. absurd (clash (sym away ∙ home));
            records = λ home un unended. absurd (clash (sym away ∙ home));
          }

      by : (o : Option Participant) → tm.part_of tid work.node.manager ≡ o → On work (record work { node = record work.node { manager = if is_some o then work.node.manager else met } })
      by (Some p) known = goes_still stamp before run work work refl refl refl refl (λ h. h)
      by None none = goes_still stamp before run work (record work { node = record work.node { manager = met } }) refl refl refl refl
          (λ h. let t : (tx : TransactionValue) × (find_transaction (book_at stamp before work) tid ≡ Some tx) × (is_commit tx.cell ≡ false) × HoldsTid work.node.setting.node work.node.setting.inc tid tx (face_of work.node tid) = there none in
          beside_met (book_at stamp before work) work.node met refl tid (λ u far. put_apart tid u _ work.node.manager far) h t.0 t.1 _ (lookup_put tid_cmp tid _ (tid_itself tid) work.node.manager.known) (new_part h none t.0 t.1 t.2 t.3))

  -- an abort is kept of what it did not know
  pub goes_keep : (work : Work) (tid : Tid)
      → (tm.part_of tid work.node.manager ≡ None → (tx : TransactionValue) × (find_transaction (book_at stamp before work) tid ≡ Some tx) × (is_abort tx.cell ≡ true) × HoldsTid work.node.setting.node work.node.setting.inc tid tx (face_of work.node tid))
      → On work (with_manager (tm.keep_abort tid) work)
  goes_keep work tid there = by (tm.part_of tid work.node.manager) refl
    where
      kept : Manager
      kept = tm.put_part tid (outcome_rules.aborted_participant (tm.is_home tid work.node.manager)) work.node.manager

      as_outcome : (c : Cell) → is_abort c ≡ true → is_outcome outcomes.Abort c ≡ true
      as_outcome cells.Abort e = refl
      as_outcome cells.Open e = absurd (cc e)
      as_outcome cells.Commit e = absurd (cc e)

      by : (o : Option Participant) → tm.part_of tid work.node.manager ≡ o → On work (record work { node = record work.node { manager = if is_some o then work.node.manager else kept } })
      by (Some p) known = goes_still stamp before run work work refl refl refl refl (λ h. h)
      by None none = goes_still stamp before run work (record work { node = record work.node { manager = kept } }) refl refl refl refl
          (λ h. let t : (tx : TransactionValue) × (find_transaction (book_at stamp before work) tid ≡ Some tx) × (is_abort tx.cell ≡ true) × HoldsTid work.node.setting.node work.node.setting.inc tid tx (face_of work.node tid) = there none in
          beside_met (book_at stamp before work) work.node kept refl tid (λ u far. put_apart tid u _ work.node.manager far) h t.0 t.1 _ (lookup_put tid_cmp tid _ (tid_itself tid) work.node.manager.known)
          (part_ended (book_at stamp before work) h.state (record work.node { manager = kept }) tid t.0 (outcome_rules.aborted_participant (tm.is_home tid work.node.manager)) outcomes.Abort refl (as_outcome t.0.cell t.2)
          (new_notes work.node.setting.node work.node.setting.inc tid t.0 (face_of work.node tid) none t.3 ((h.at tid).strangers t.0 t.1 none (not_commit t.0.cell t.2)) (not_commit t.0.cell t.2) (outcome_rules.aborted_participant (tm.is_home tid work.node.manager)))
          (λ is. absurd (cc is))))

  -- what was only read, or is committed and told to all, is forgotten
  pub goes_forget : (work : Work) (tid : Tid) → IsRising tid_cmp work.node.manager.known
      → ((h : HoldsBeside (book_at stamp before work) work.node) (tx : TransactionValue) → find_transaction (book_at stamp before work) tid ≡ Some tx
      → (is_commit tx.cell ≡ false → HoldsStranger work.node.setting.node work.node.setting.inc tid tx) × (tid.home ≡ work.node.setting.node → HoldsEnded (record work.node { manager = tm.forget tid work.node.manager }) tid tx))
      → On work (forget tid work)
  goes_forget work tid rising left = goes_still stamp before run work (forget tid work) refl refl refl refl
      (λ h. beside_alike stamp before run (book_at stamp before work) (record work.node { manager = tm.forget tid work.node.manager }) (forget tid work).node refl refl refl refl refl
      (beside_left (book_at stamp before work) work.node (tm.forget tid work.node.manager) refl tid (λ t far. removed_apart (is_at (tid_cmp tid)) (is_at (tid_cmp t)) far.keys work.node.manager.known) h (removed tid_cmp at_exact tid work.node.manager.known rising) (left h)))
