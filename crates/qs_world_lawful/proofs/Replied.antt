-- A reply comes, to a client's request or to a note of files, which is noted then: the rule as a whole; and all that waits is served.
use Rattle.qs_world_lawful.proofs.Words.{◌≡◌, ℕ, Bool, true, false, List, [], ◌∷◌, Option, Some, None, refl, sym, ap, subst, ◌∙◌, cond, if◌then◌else◌, lookup, set_value, is_at, tid_cmp, Member, ServerNo, Tid, lookup_set, Reply, BookValue, find_transaction, TransactionValue, client_of, answer_issuer, reply_came, take_reply, serve_next, Work, with_manager, waiting_for, Manager, Outstanding, Participant, HoldsWork, book_at, AreNoted, AtEach, MayServe}
use Rattle.qs_node_step.specs.Serving.{serve_all}
use Rattle.qs_ipc.specs.Ipc as ipc
use Rattle.qs_node_step.specs.Requests as requests
use Rattle.qs_tm.specs.Manager as tm
use Rattle.qs_tm.specs.Participant as participant
use Rattle.qs_tm.specs.Participant.{is_by_files}
use Rattle.qs_world_lawful.specs.Given.{MayReply}
use Rattle.qs_world_lawful.proofs.FilesHeld.{files_held}
use Rattle.qs_world_lawful.proofs.Replying.{by_issuer, by_notes}
use Rattle.qs_world_lawful.proofs.ServingNext.{by_next_served, found_of}
use Rattle.qs_world_lawful.proofs.Stages.{by_fold}

-- ---- a value that is changed twice

set_twice : {K V : Type 0} (p : K → Bool) (es : List (K × V)) (v w : V) → set_value p (set_value p es v) w ≡ set_value p es w
set_twice p [] v w = refl
set_twice {K} {V} p (e ∷ es) v w = by (p e.0) refl (set_twice p es v w)
  where
    by : (b : Bool) → p e.0 ≡ b → set_value p (set_value p es v) w ≡ set_value p es w → set_value p (cond b ((e.0, v) ∷ es) (e ∷ set_value p es v)) w ≡ cond b ((e.0, w) ∷ es) (e ∷ set_value p es w)
    by true is more = rw is refl
    by false is more = rw is (ap (λ (xs : List (K × V)). e ∷ xs) more)

changed_twice : {K V : Type 0} (p : K → Bool) (f g : V → V) (es : List (K × V)) → tm.changed_value p f (tm.changed_value p g es) ≡ tm.changed_value p (λ v. f (g v)) es
changed_twice {K} {V} p f g es = by (lookup p es) refl
  where
    by : (o : Option V) → lookup p es ≡ o → tm.changed_value p f (elim o [ None ↦ es | Some v ↦ set_value p es (g v) ]) ≡ (elim o [ None ↦ es | Some v ↦ set_value p es (f (g v)) ])
    by None is = ap (λ (o : Option V). elim o [ None ↦ es | Some v ↦ set_value p es (f v) ]) is
    by (Some v) is = ap (λ (o : Option V). elim o [ None ↦ set_value p es (g v) | Some u ↦ set_value p (set_value p es (g v)) (f u) ]) (lookup_set p es v (g v) is) ∙ set_twice p es (g v) (f (g v))

pub part_twice : (tid : Tid) (f g : Participant → Participant) (manager : Manager) → tm.with_part tid f (tm.with_part tid g manager) ≡ tm.with_part tid (λ p. f (g p)) manager
part_twice tid f g manager = ap (λ (known : List (Tid × Participant)). record manager { known = known }) (changed_twice (is_at (tid_cmp tid)) f g manager.known)

-- ---- the rule

module _ (stamp : ℕ) (before : BookValue) (work : Work) (h : HoldsWork stamp before work) (tid : Tid) (member : Member) (number : ℕ) (reply : Reply) (given : MayReply stamp before work tid member number) where
  abbrev dropped : Work
  dropped = with_manager (tm.drop_waiting tid member number) work

  taken : (part : Participant) (tx : TransactionValue) (request : Outstanding) → tm.part_of tid work.node.manager ≡ Some part → find_transaction (book_at stamp before work) tid ≡ Some tx → waiting_for member number part ≡ Some request
      → HoldsWork stamp before (take_reply tid reply request dropped)
  taken part tx request known found waits = by (is_by_files request) (given part tx request known found waits)
    where
      by : (b : Bool) → AreNoted work.node.setting.node work.node.setting.inc tid tx (if b then participant.note_served request.count (participant.drop_waiting member number part) else participant.drop_waiting member number part)
          → HoldsWork stamp before (if b then with_manager (tm.note_served tid request.count) dropped else answer_issuer tid request.member request.number reply (client_of request.issuer) dropped)
      by true noted = subst (λ (m : Manager). HoldsWork stamp before (record work { node = record work.node { manager = m } })) (sym (part_twice tid (participant.note_served request.count) (participant.drop_waiting member number) work.node.manager))
          (by_notes stamp before work tid (λ p. participant.note_served request.count (participant.drop_waiting member number p)) part tx h known found (λ p. refl) refl noted)
      by false noted = by_issuer stamp before dropped tid request.member request.number reply (client_of request.issuer) (by_notes stamp before work tid (participant.drop_waiting member number) part tx h known found (λ p. refl) refl noted)

  pub by_replied : HoldsWork stamp before (reply_came tid member number reply work)
  by_replied = by (tm.part_of tid work.node.manager) refl
    where
      waits_is : (o : Option Participant) → tm.part_of tid work.node.manager ≡ o → requests.waiting_at tid member number work ≡ (elim o [ None ↦ None | Some p ↦ waiting_for member number p ])
      waits_is o is = ap (λ (o : Option Participant). elim o [ None ↦ None | Some p ↦ waiting_for member number p ]) is

      came : (o : Option Outstanding) → requests.waiting_at tid member number work ≡ o → HoldsWork stamp before (elim o [ None ↦ work | Some request ↦ take_reply tid reply request dropped ]) → HoldsWork stamp before (reply_came tid member number reply work)
      came o is k = subst (λ (x : Option Outstanding). HoldsWork stamp before (elim x [ None ↦ work | Some request ↦ take_reply tid reply request dropped ])) (sym is) k

      of : (part : Participant) → tm.part_of tid work.node.manager ≡ Some part → (o : Option Outstanding) → waiting_for member number part ≡ o → HoldsWork stamp before (elim o [ None ↦ work | Some request ↦ take_reply tid reply request dropped ])
      of part known None waits = h
      of part known (Some request) waits = let tx = found_of stamp before work h tid part known in taken part tx.0 request known tx.1 waits

      by : (o : Option Participant) → tm.part_of tid work.node.manager ≡ o → HoldsWork stamp before (reply_came tid member number reply work)
      by None known = came None (waits_is None known) h
      by (Some part) known = came (waiting_for member number part) (waits_is (Some part) known) (of part known (waiting_for member number part) refl)

-- ---- what waits is served

pub by_served : (stamp : ℕ) (before : BookValue) (work : Work) → HoldsWork stamp before work → (server : ServerNo) → MayServe stamp before work server → HoldsWork stamp before (serve_next work server)
by_served stamp before work h server may =
    by_next_served stamp before work h (files_held stamp before work h) server may.room may.noted
    (λ delivery said part next known says near served. by_replied stamp before _ served delivery.tid _ delivery.number said (may.reply delivery said next says near))

pub by_serve_all : (stamp : ℕ) (before : BookValue) (work : Work) → HoldsWork stamp before work → AtEach (MayServe stamp before) serve_next work (ipc.turns work.node.queues) → HoldsWork stamp before (serve_all work)
by_serve_all stamp before work h given = by_fold stamp before (MayServe stamp before) serve_next (λ w server k may. by_served stamp before w k server may) (ipc.turns work.node.queues) work h given
