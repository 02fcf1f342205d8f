-- As a reply comes, its request waits no more, and no other waits for the command of its client.
use Rattle.qs_world_runs.proofs.Words.{◌≡◌, ℕ, ◌==◌, ◌&&◌, Bool, true, false, not, List, [], ◌∷◌, Option, Some, None, refl, sym, ap, subst, ◌∙◌, if◌then◌else◌, eqb-true, filter, same_member-true, same_tid-true, same_member, same_tid, ClientNo, Member, Tid, client_of, is_issued_as, waits_as, Issued, OpenCommand, is_answered_by, Manager, Outstanding, Participant, Every, each_changed, every_filter, clash, left_true, of_some, right_true, Around, IsCommanded, IsHeld, NotAwaited, Waits, command_at}
use Rattle.qs_tm.specs.Manager as tm
use Rattle.qs_tm.specs.Participant as participant
use Rattle.qs_tm.specs.Participant.{waiting_for}
use Rattle.qs_world_refine.proofs.Entries.{found_is}
use Rattle.qs_world_runs.proofs.OwingParts.{every_each, waits_changed}

pub waits_dropped : (a : Around) (tid : Tid) (member : Member) (number : ℕ) (m : Manager) → Waits a m → Waits a (tm.drop_waiting tid member number m)
waits_dropped a tid member number m = waits_changed a a tid (participant.drop_waiting member number) m (λ t p far known s. s)
    (λ p known s. record { uncounted = s.uncounted; awaited = λ undecided. every_filter (IsHeld a tid) (λ request. not (is_answered_by member number request)) p.waiting (s.awaited undecided) })

-- the command that was issued as that request
pub record WasIssued (tid : Tid) (member : Member) (number : ℕ) (o : Option OpenCommand) : Type 0 where
  pub command : OpenCommand
  pub there : o ≡ Some command
  pub issued : Issued
  pub as_issued : command.issued ≡ Some issued
  pub for_it : is_issued_as tid member number issued ≡ true

pub was_issued : (tid : Tid) (member : Member) (number : ℕ) (o : Option OpenCommand) → waits_as tid member number o ≡ true → WasIssued tid member number o
was_issued tid member number None is = absurd (cc is)
was_issued tid member number (Some command) is = by command.issued refl is
  where
    by : (i : Option Issued) → command.issued ≡ i → (elim i [ None ↦ false | Some issued ↦ is_issued_as tid member number issued ]) ≡ true → WasIssued tid member number (Some command)
    by None none is = absurd (cc is)
    by (Some issued) some is = record { command = command; there = refl; issued = issued; as_issued = some; for_it = is }

module _ (a : Around) (m : Manager) (tid : Tid) (member : Member) (number : ℕ) (request : Outstanding) (waits : tm.told_of tid None (waiting_for member number) m ≡ Some request)
    (hand : waits_as tid request.member request.number (command_at (client_of request.issuer) a) ≡ true) where
  abbrev client : ClientNo
  client = client_of request.issuer

  was : WasIssued tid request.member request.number (command_at client a)
  was = was_issued tid request.member request.number (command_at client a) hand

  answered : is_answered_by member number request ≡ true
  answered = by (tm.part_of tid m) waits
    where
      by : (o : Option Participant) → (elim o [ None ↦ None | Some part ↦ waiting_for member number part ]) ≡ Some request → is_answered_by member number request ≡ true
      by None is = absurd (cc is)
      by (Some part) is = found_is (is_answered_by member number) part.waiting request is

  -- a request that waits for that command is of this transaction, and has this member and number
  record IsThis (t : Tid) (r : Outstanding) : Type 0 where
    same : t ≡ tid
    this : is_answered_by member number r ≡ true

  is_this : (t : Tid) (r : Outstanding) → IsCommanded a t r → client_of r.issuer ≡ client → IsThis t r
  is_this t r c same = record {
    same = sym (same_tid-true was.issued.tid t (left_true (same_tid was.issued.tid t) _ its)) ∙ same_tid-true was.issued.tid tid (left_true (same_tid was.issued.tid tid) _ was.for_it);
    this = subst (λ (x : Member). (same_member x member && (r.number == number)) ≡ true) members
        (subst (λ (k : ℕ). (same_member request.member member && (k == number)) ≡ true) numbers answered);
  }
    where
      one : c.command ≡ was.command
      one = of_some (sym c.there ∙ (ap (λ (x : ClientNo). command_at x a) same ∙ was.there))

      its : is_issued_as t r.member r.number was.issued ≡ true
      its = subst (λ (i : Issued). is_issued_as t r.member r.number i ≡ true) (of_some (sym c.as_issued ∙ (ap (λ (o : OpenCommand). o.issued) one ∙ was.as_issued))) c.for_it

      its_rest : (same_member was.issued.member r.member && (was.issued.number == r.number)) ≡ true
      its_rest = right_true (same_tid was.issued.tid t) _ its

      was_rest : (same_member was.issued.member request.member && (was.issued.number == request.number)) ≡ true
      was_rest = right_true (same_tid was.issued.tid tid) _ was.for_it

      members : request.member ≡ r.member
      members = sym (same_member-true was.issued.member request.member (left_true (same_member was.issued.member request.member) _ was_rest)) ∙ same_member-true was.issued.member r.member (left_true (same_member was.issued.member r.member) _ its_rest)

      numbers : request.number ≡ r.number
      numbers = sym (eqb-true was.issued.number request.number (right_true (same_member was.issued.member request.member) _ was_rest)) ∙ eqb-true was.issued.number r.number (right_true (same_member was.issued.member r.member) _ its_rest)

  abbrev Not : Tid → Outstanding → Type 0
  Not t r = IsCommanded a t r → client_of r.issuer ≡ client → ⊥

  kept : (rs : List Outstanding) → Every (Not tid) (filter (λ r. not (is_answered_by member number r)) rs)
  kept [] = tt
  kept (r ∷ rs) = by (is_answered_by member number r) refl (kept rs)
    where
      by : (b : Bool) → is_answered_by member number r ≡ b → Every (Not tid) (filter (λ r. not (is_answered_by member number r)) rs) → Every (Not tid) (if not b then r ∷ filter (λ r. not (is_answered_by member number r)) rs else filter (λ r. not (is_answered_by member number r)) rs)
      by true is more = more
      by false is more = (λ c same. clash (sym is ∙ (is_this tid r c same).this), more)

  pub unawaited : NotAwaited a (tm.drop_waiting tid member number m) client
  unawaited t p known undecided = each_changed tid (participant.drop_waiting member number) m (λ (s : Tid) (q : Participant). Every (Not s) q.waiting)
      (λ s q far there. every_each (Not s) (λ r c same. far.differ (sym (is_this s r c same).same)) q.waiting) (λ q there. kept q.waiting) t p known
