-- A request is served: what the machine has beside the node stands on.
use Rattle.qs_world_lawful.proofs.Words.{◌≡◌, ◌≢◌, ℕ, ◌≤◌, ◌+◌, ◌==◌, Bool, true, false, refl, sym, ap, subst, ◌∙◌, arith, length, if◌then◌else◌, le_refl, nat_tests, list_any, ◌&&◌, ◌||◌, not, is_none, NodeNo, Class, ServerNo, Tid, last_number, TransactionValue, is_start, life, served_in, serving_part, Part, RequestNo, class_of, is_two_phase, class_here, is_told_class, member_of, with_member, MemberPart, Participant, HoldsReader, HoldsReads, at_server, covers_at_most, or_right, eqb-false, eqb-true}
use Rattle.qs_world_lawful.proofs.Words.{le_le}
use Rattle.qs_base.specs.declared.identifiers.Class.TheVariants as classes
use Rattle.qs_book_machine.specs.Clauses.{note_text}
use Rattle.qs_book_machine.specs.Transaction.{part_of}
use Rattle.qs_tm.specs.Members as rules
use Rattle.qs_tm.specs.Participant as participant
use Rattle.qs_world_lawful.specs.Holds.{is_kept}
use Rattle.qs_world_lawful.proofs.MemberTid.{lives_apart}
use Rattle.qs_world_lawful.proofs.NotesServed.{served_issued}
use Rattle.qs_world_lawful.proofs.Parts.{put_part_apart, with_other, with_own}
use Rattle.qs_world_lawful.proofs.Served.{newly_served, one_more, part_served}
use Rattle.qs_world_lawful.proofs.Truths.{clash}

-- who just served has not only read
unread : (server : ServerNo) (m : MemberPart) → is_two_phase (class_of server.0) ≡ true → covers_at_most m.served m.vote → rules.has_read server (one_more m) ≡ false
unread server m two most = by (rules.votes_here server) (m.served + 1 == 0) (rules.is_let_go (one_more m)) two (some m.served) (newly_served m most)
  where
    some : (n : ℕ) → (n + 1 == 0) ≡ false
    some n = grind (arith, nat_tests)

    by : (a b c : Bool) → a ≡ true → b ≡ false → c ≡ false → (not a || ((b && is_none m.vote) || c)) ≡ false
    by a b c p q r = rw (p, q, r) refl

-- at most one more is pending
one : (b : Bool) (n : ℕ) → n ≤ (if b then n + 1 else n)
one true n = grind arith
one false n = grind arith

more_pending : (c : Class) (stamp : ℕ) (done : Bool) (part : Part) → part.pending ≤ (serving_part c stamp done part).pending
more_pending classes.Activity stamp done part = le_refl part.pending
more_pending classes.Recoverable stamp done part = one done part.pending
more_pending classes.Volatile stamp done part = one done part.pending
more_pending classes.Immediate stamp done part = one done part.pending
more_pending classes.Standard stamp done part = one done part.pending
more_pending classes.Delayed stamp done part = one done part.pending

-- ---- one transaction

module _ (here : NodeNo) (inc stamp : ℕ) (at : RequestNo) (server : ServerNo) (done : Bool) (tid : Tid) (tx : TransactionValue) (p : Participant) (size : length p.members ≡ 7)
    (room : is_kept server ≡ true → ((member_of p server).served == last_number) ≡ false) (most : is_kept server ≡ true → is_two_phase (class_of server.0) ≡ true → covers_at_most (member_of p server).served (member_of p server).vote) where
  abbrev q : Participant
  q = participant.served server p

  abbrev now : TransactionValue
  now = served_in at (at_server here server) inc stamp done tx

  involved_on : p.involved ≡ true → q.involved ≡ true
  involved_on is = by ((member_of p server).served == last_number)
    where
      by : (b : Bool) → (if b then p else record (with_member server (one_more (member_of p server)) p) { involved = p.involved || is_told_class (class_here server) }).involved ≡ true
      by true = is
      by false = rw is refl

  member_apart : (other : ServerNo) → server.0 ≢ other.0 → member_of q other ≡ member_of p other
  member_apart other far = by ((member_of p server).served == last_number)
    where
      by : (b : Bool) → member_of (if b then p else record (with_member server (one_more (member_of p server)) p) { involved = p.involved || is_told_class (class_here server) }) other ≡ member_of p other
      by true = refl
      by false = with_other server other (one_more (member_of p server)) p far

  part_apart_is : (other : ServerNo) → server.0 ≢ other.0 → part_of now (at_server here other) inc ≡ part_of tx (at_server here other) inc
  part_apart_is other far = put_part_apart (life (at_server here server) inc) _ tx.parts (at_server here other) inc (lives_apart here inc server other far)

  -- the member that served
  module _ (kept : is_kept server ≡ true) where
    own_member : member_of q server ≡ one_more (member_of p server)
    own_member = by ((member_of p server).served == last_number) (room kept)
      where
        by : (b : Bool) → b ≡ false → member_of (if b then p else record (with_member server (one_more (member_of p server)) p) { involved = p.involved || is_told_class (class_here server) }) server ≡ one_more (member_of p server)
        by false e = with_own server (one_more (member_of p server)) p size kept
        by true e = absurd (cc e)

    own_involved : is_told_class (class_of server.0) ≡ true → q.involved ≡ true
    own_involved told = by ((member_of p server).served == last_number) (room kept)
      where
        by : (b : Bool) → b ≡ false → (if b then p else record (with_member server (one_more (member_of p server)) p) { involved = p.involved || is_told_class (class_here server) }).involved ≡ true
        by false e = or_right p.involved (is_told_class (class_here server)) told
        by true e = absurd (cc e)

    own_unread : is_two_phase (class_of server.0) ≡ true → rules.has_read server (member_of q server) ≡ true → ⊥
    own_unread two read = clash (sym (unread server (member_of p server) two (most kept two)) ∙ (ap (rules.has_read server) (sym own_member) ∙ read))

    own_reader : HoldsReader here inc now q server
    own_reader = record { anew = λ two read. absurd (own_unread two read); unfresh = λ two read. absurd (own_unread two read); told = λ told fresh. own_involved told }

  other_reader : (other : ServerNo) → server.0 ≢ other.0 → HoldsReader here inc tx p other → HoldsReader here inc now q other
  other_reader other far r = record {
    anew = λ two read. ap (λ (x : Part). (0 == x.served + x.found) || list_any (is_start (at_server here other) inc x.served 0) tx.starts) (part_apart_is other far) ∙ r.anew two (ap (rules.has_read other) (sym (member_apart other far)) ∙ read);
    unfresh = λ two read. ap (λ (m : MemberPart). m.fresh && not (rules.is_let_go m)) (member_apart other far) ∙ r.unfresh two (ap (rules.has_read other) (sym (member_apart other far)) ∙ read);
    told = λ told fresh. involved_on (r.told told (ap (λ (m : MemberPart). m.fresh) (sym (member_apart other far)) ∙ fresh));
  }

  reader : (other : ServerNo) → is_kept other ≡ true → (b : Bool) → (server.0 == other.0) ≡ b → HoldsReader here inc tx p other → HoldsReader here inc now q other
  reader other kept true is r = subst (HoldsReader here inc now q) (same is) (own_reader (subst (λ (s : ServerNo). is_kept s ≡ true) (sym (same is)) kept))
    where
      same : (server.0 == other.0) ≡ true → server ≡ other
      same e = ap (λ (n : ℕ). record { 0 = n }) (eqb-true server.0 other.0 e)
  reader other kept false is r = other_reader other (eqb-false server.0 other.0 is) r

  pending_on : (part_of tx (at_server here rules.files_no) inc).pending ≤ (part_of now (at_server here rules.files_no) inc).pending
  pending_on = by (server.0 == 0) refl
    where
      by : (b : Bool) → (server.0 == 0) ≡ b → (part_of tx (at_server here rules.files_no) inc).pending ≤ (part_of now (at_server here rules.files_no) inc).pending
      by false is = subst (λ (x : Part). (part_of tx (at_server here rules.files_no) inc).pending ≤ x.pending) (sym (part_apart_is rules.files_no (eqb-false server.0 0 is))) (le_refl _)
      by true is = subst (λ (s : ServerNo). (part_of tx (at_server here s) inc).pending ≤ (part_of now (at_server here s) inc).pending) (ap (λ (n : ℕ). record { 0 = n }) (eqb-true server.0 0 is))
          (subst (λ (x : Part). (part_of tx (at_server here server) inc).pending ≤ x.pending) (sym (part_served at tx (at_server here server) inc stamp done)) (more_pending (class_of server.0) stamp done (part_of tx (at_server here server) inc)))

  files_pending : HoldsReads here inc tid tx p → rules.has_read rules.files_no (member_of q rules.files_no) ≡ true → (part_of now (at_server here rules.files_no) inc).pending ≡ 0
  files_pending r read = by (server.0 == 0) refl
    where
      by : (b : Bool) → (server.0 == 0) ≡ b → (part_of now (at_server here rules.files_no) inc).pending ≡ 0
      by false is = ap (λ (x : Part). x.pending) (part_apart_is rules.files_no (eqb-false server.0 0 is)) ∙ r.unchanged (ap (rules.has_read rules.files_no) (sym (member_apart rules.files_no (eqb-false server.0 0 is))) ∙ read)
      by true is = let same : server ≡ rules.files_no = ap (λ (n : ℕ). record { 0 = n }) (eqb-true server.0 0 is) in
          absurd (own_unread (subst (λ (s : ServerNo). is_kept s ≡ true) (sym same) refl) (subst (λ (s : ServerNo). is_two_phase (class_of s.0) ≡ true) (sym same) refl)
          (subst (λ (s : ServerNo). rules.has_read s (member_of q s) ≡ true) (sym same) read))

  pub reads_now : HoldsReads here inc tid tx p → HoldsReads here inc tid now q
  reads_now r = record {
    readers = λ other kept. reader other kept (server.0 == other.0) refl (r.readers other kept);
    unchanged = files_pending r;
    counted = λ count one is. le_le count _ _ (r.counted count one (sym (served_issued at (at_server here server) inc stamp done tx here inc (note_text tid here.0 count)) ∙ is)) pending_on;
  }
