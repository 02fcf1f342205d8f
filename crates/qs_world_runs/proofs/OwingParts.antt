-- What a node waits for stands on where the history grows, and where what the node keeps of one transaction is changed, put in or forgotten.
use Rattle.qs_world_runs.proofs.Words.{◌≡◌, ◌⊎◌, inl, inr, ℕ, ◌==◌, Bool, true, false, not, List, [], ◌∷◌, ◌++◌, Some, None, refl, sym, ap, subst, ◌∙◌, if◌then◌else◌, append-nil, is_at, list_any, tid_total, tid_cmp, NodeNo, Tid, is_covered, is_open_to, peer_of, PeerPart, Entry, at_exact, put_rises, remove_rises, removed, answers, counts, forget_apart, aborted_participant, new_participant, Manager, Outstanding, Participant, Every, same_or_apart, each_changed, every_two, put_there, of_some}
use Rattle.qs_world_runs.proofs.Words.{stands_awaited, stands_uncounted, Around, IsCommanded, IsHeld, LeavesWaits, StandsSo, Waits}
use Rattle.qs_engage.specs.Engage.{new_engage}
use Rattle.qs_ops.specs.Servers.{files_no}
use Rattle.qs_tm.specs.Manager as tm
use Rattle.qs_world_lawful.proofs.Apart.{Apart}
use Rattle.qs_world_lawful.proofs.Begins.{new_peer}
use Rattle.qs_world_lawful.proofs.Faces.{put_apart}
use Rattle.qs_world_lawful.proofs.Marks.{changed_rises}
use Rattle.qs_world_runs.proofs.OwingEntries.{awaited_on, uncounted_on}

pub every_each : {A : Type 0} (P : A → Type 0) → ((x : A) → P x) → (xs : List A) → Every P xs
every_each P each [] = tt
every_each P each (x ∷ xs) = (each x, every_each P each xs)

-- ---- what else bears on it changes

-- its client has no answer in those entries, and has its command in hand on
abbrev pub WaitsOn : Around → Around → Tid → List Entry → Outstanding → Type 0
WaitsOn a b tid more request = (request.issuer.0 == files_no) ≡ false → IsCommanded a tid request → (list_any (answers request.issuer.0) more ≡ false) × IsCommanded b tid request

-- the history grows by entries that count nothing of it for its node
pub so_on : (a b : Around) (more : List Entry) → b.me ≡ a.me → b.history ≡ a.history ++ more → (tid : Tid) (part : Participant)
    → ((peer : NodeNo) → is_open_to peer part.engage ≡ true → list_any (counts tid peer a.me (peer_of part.engage peer).sent) more ≡ false)
    → (part.outcome ≡ None → Every (WaitsOn a b tid more) part.waiting) → StandsSo a tid part → StandsSo b tid part
so_on a b more me history tid part none on s = record {
  uncounted = λ peer open_to. subst (λ (h : List Entry). stands_uncounted tid peer b.me (peer_of part.engage peer).sent h ≡ true) (sym history)
      (subst (λ (m : NodeNo). stands_uncounted tid peer m (peer_of part.engage peer).sent (a.history ++ more) ≡ true) (sym me)
      (uncounted_on tid peer a.me (peer_of part.engage peer).sent more (none peer open_to) a.history (s.uncounted peer open_to)));
  awaited = λ undecided. every_two (IsHeld a tid) (WaitsOn a b tid more) (IsHeld b tid) held part.waiting (s.awaited undecided) (on undecided);
}
  where
    held : (request : Outstanding) → IsHeld a tid request → WaitsOn a b tid more request → IsHeld b tid request
    held request h g = record {
      stands = subst (λ (l : List Entry). stands_awaited tid request.member.node request.issuer.0 l ≡ true) (sym history)
          (awaited_on tid request.member.node request.issuer.0 more (λ other. (g other (h.commanded other)).0) a.history h.stands);
      commanded = λ other. (g other (h.commanded other)).1;
    }

-- or does not grow
pub so_still : (a b : Around) → b.me ≡ a.me → b.history ≡ a.history → (tid : Tid) (part : Participant)
    → (part.outcome ≡ None → Every (λ (request : Outstanding). IsCommanded a tid request → IsCommanded b tid request) part.waiting) → StandsSo a tid part → StandsSo b tid part
so_still a b me history tid part on s = so_on a b [] me (history ∙ sym (append-nil a.history)) tid part (λ peer open_to. refl)
    (λ undecided. of part.waiting (on undecided)) s
  where
    of : (requests : List Outstanding) → Every (λ (request : Outstanding). IsCommanded a tid request → IsCommanded b tid request) requests → Every (WaitsOn a b tid []) requests
    of [] all = tt
    of (request ∷ more) all = (λ other commanded. (refl, all.0 commanded), of more all.1)

pub waits_as : (a b : Around) (m : Manager) → ((tid : Tid) (part : Participant) → tm.part_of tid m ≡ Some part → StandsSo a tid part → StandsSo b tid part) → Waits a m → Waits b m
waits_as a b m on w = record { rising = w.rising; each = λ tid part known. on tid part known (w.each tid part known) }

-- ---- one transaction changes

pub waits_changed : (a b : Around) (tid : Tid) (f : Participant → Participant) (m : Manager) → ((t : Tid) (p : Participant) → Apart tid t → tm.part_of t m ≡ Some p → StandsSo a t p → StandsSo b t p)
    → ((p : Participant) → tm.part_of tid m ≡ Some p → StandsSo a tid p → StandsSo b tid (f p)) → Waits a m → Waits b (tm.with_part tid f m)
waits_changed a b tid f m other own w = record {
  rising = changed_rises tid f m w.rising;
  each = each_changed tid f m (λ (t : Tid) (p : Participant). StandsSo b t p) (λ t p far known. other t p far known (w.each t p known)) (λ p known. own p known (w.each tid p known));
}

pub so_left : (f : Participant → Participant) → LeavesWaits f → (a : Around) (tid : Tid) (p : Participant) → StandsSo a tid p → StandsSo a tid (f p)
so_left f l a tid p s = record {
  uncounted = λ peer open_to. subst (λ (k : ℕ). stands_uncounted tid peer a.me k a.history ≡ true) (sym (l.sent p peer)) (s.uncounted peer (l.opens p peer open_to));
  awaited = λ undecided. subst (Every (IsHeld a tid)) (sym (l.waiting p)) (s.awaited (l.outcome p undecided));
}

pub waits_left : (a : Around) (tid : Tid) (f : Participant → Participant) (m : Manager) → LeavesWaits f → Waits a m → Waits a (tm.with_part tid f m)
waits_left a tid f m l = waits_changed a a tid f m (λ t p far known s. s) (λ p known. so_left f l a tid p)

-- ---- one more is known, or one less

pub waits_put : (a : Around) (tid : Tid) (part : Participant) (m : Manager) → StandsSo a tid part → Waits a m → Waits a (tm.put_part tid part m)
waits_put a tid part m new w = record { rising = put_rises tid_cmp tid_total tid part m.known w.rising; each = λ t p known. by t p known (same_or_apart tid t) }
  where
    by : (t : Tid) (p : Participant) → tm.part_of t (tm.put_part tid part m) ≡ Some p → (tid ≡ t) ⊎ Apart tid t → StandsSo a t p
    by t p known (inl e) = subst (λ (x : Tid). StandsSo a x p) e (subst (StandsSo a tid) (of_some (sym (put_there tid part m) ∙ subst (λ (x : Tid). tm.part_of x (tm.put_part tid part m) ≡ Some p) (sym e) known)) new)
    by t p known (inr far) = w.each t p (sym (put_apart tid t part m far) ∙ known)

pub waits_forgot : (a : Around) (tid : Tid) (m : Manager) → Waits a m → Waits a (tm.forget tid m)
waits_forgot a tid m w = record { rising = remove_rises tid_cmp (is_at (tid_cmp tid)) m.known w.rising; each = λ t p known. by t p known (same_or_apart t tid) }
  where
    by : (t : Tid) (p : Participant) → tm.part_of t (tm.forget tid m) ≡ Some p → (t ≡ tid) ⊎ Apart t tid → StandsSo a t p
    by t p known (inl e) = absurd (cc (sym (removed tid_cmp at_exact tid m.known w.rising) ∙ subst (λ (x : Tid). tm.part_of x (tm.forget tid m) ≡ Some p) e known))
    by t p known (inr far) = w.each t p (sym (forget_apart t tid m far.by) ∙ known)

-- of one that is new nothing was sent, and nothing waits
pub so_fresh : (a : Around) (tid : Tid) (part : Participant) (home : Bool) → part.engage ≡ new_engage home → part.waiting ≡ [] → StandsSo a tid part
so_fresh a tid part home engage waiting = record {
  uncounted = λ peer open_to. absurd (cc (sym (none peer) ∙ open_to));
  awaited = λ undecided. subst (Every (IsHeld a tid)) (sym waiting) tt;
}
  where
    none : (peer : NodeNo) → is_open_to peer part.engage ≡ false
    none peer = ap (is_open_to peer) engage ∙ ap (λ (p : PeerPart). not (is_covered p)) (new_peer home peer)

pub waits_met : (a : Around) (tid : Tid) (m : Manager) → Waits a m → Waits a (tm.meet tid m)
waits_met a tid m w = by (tm.knows tid m)
  where
    by : (b : Bool) → Waits a (if b then m else tm.put_part tid (new_participant (tm.is_home tid m)) m)
    by true = w
    by false = waits_put a tid (new_participant (tm.is_home tid m)) m (so_fresh a tid (new_participant (tm.is_home tid m)) (tm.is_home tid m) refl refl) w

pub waits_aborted : (a : Around) (tid : Tid) (m : Manager) → Waits a m → Waits a (tm.keep_abort tid m)
waits_aborted a tid m w = by (tm.knows tid m)
  where
    by : (b : Bool) → Waits a (if b then m else tm.put_part tid (aborted_participant (tm.is_home tid m)) m)
    by true = w
    by false = waits_put a tid (aborted_participant (tm.is_home tid m)) m (so_fresh a tid (aborted_participant (tm.is_home tid m)) (tm.is_home tid m) refl refl) w
