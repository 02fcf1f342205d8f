-- What a piece of a node's step leaves as it was of what is seen of one transaction.
use Rattle.qs_world_refine.proofs.Words.{◌≡◌, ℕ, ◌==◌, Bool, true, false, List, [], ◌∷◌, ◌++◌, refl, sym, ap, ◌∙◌, arith, append_assoc, if◌then◌else◌, filter, nat_tests, filter-append, NodeNo, Tid, Message, Record, Recovery, recovery, found_record, is_forced, send, Work, Face, Said, said, all_said, face_at, Scene, said_during, unmet_during, sight_during, ShowsWork, Runs, Meets, Sight, ShowsSight, IsAt, IsKnown}
use Rattle.qs_world_agree.specs.World.{World}
use Rattle.qs_world_refine.specs.Shows.{sent_to}
use Rattle.qs_world_refine.proofs.Alike.{SameFace, SameFound, same_itself, found_itself, found_on, sight_alike}
use Rattle.qs_world_refine.proofs.LogFrames.{Apart, record_tid, record_apart}
use Rattle.qs_world_refine.proofs.Reading.{SameFor, same_for_itself, same_for_on, face_for}
use Rattle.qs_world_refine.proofs.Sending.{append_nil, sent_more}
use Rattle.qs_world_refine.proofs.Voting.{recovered_more}

-- the records of a step that stand on the disk once they are appended
abbrev pub forced_log : List Record → Work → Recovery
forced_log log work = recovery (log ++ filter is_forced work.out.records)

-- nothing more is said of the transaction, and no record of it is forced
pub record Quiet (tid : Tid) (work new : Work) : Type 0 where
  pub sends : (q : ℕ) → all_said tid (sent_to q new.out.messages) ≡ all_said tid (sent_to q work.out.messages)
  pub logs : (log : List Record) → SameFound tid (forced_log log work) (forced_log log new)

-- all of it stays
pub record Leaves (tid : Tid) (work new : Work) : Type 0 where
  pub node : SameFor tid work.node new.node
  pub quiet : Quiet tid work new

pub quiet_itself : (tid : Tid) (work : Work) → Quiet tid work work
quiet_itself tid work = record { sends = λ q. refl; logs = λ log. found_itself tid (forced_log log work) }

pub quiet_on : (tid : Tid) (a b c : Work) → Quiet tid a b → Quiet tid b c → Quiet tid a c
quiet_on tid a b c first second = record {
  sends = λ q. second.sends q ∙ first.sends q;
  logs = λ log. found_on tid (forced_log log a) (forced_log log b) (forced_log log c) (first.logs log) (second.logs log);
}

pub leaves_itself : (tid : Tid) (work : Work) → Leaves tid work work
leaves_itself tid work = record { node = same_for_itself tid work.node; quiet = quiet_itself tid work }

pub leaves_on : (tid : Tid) (a b c : Work) → Leaves tid a b → Leaves tid b c → Leaves tid a c
leaves_on tid a b c first second = record {
  node = same_for_on tid a.node b.node c.node first.node second.node;
  quiet = quiet_on tid a b c first.quiet second.quiet;
}

-- ---- a message that says nothing of it

pub send_leaves : (tid : Tid) (to : NodeNo) (message : Message) (work : Work) → said tid message ≡ [] → Leaves tid work (send to message work)
send_leaves tid to message work nothing = by (Rattle.qs_node_step.specs.Bringing.is_other work.node.setting to)
  where
    no_more : (q : ℕ) → all_said tid (sent_to q (work.out.messages ++ record { to = to; message = message } ∷ [])) ≡ all_said tid (sent_to q work.out.messages)
    no_more q = sent_more tid q to message work.out.messages ∙ none (to.0 == q)
      where
        none : (b : Bool) → all_said tid (sent_to q work.out.messages) ++ (if b then said tid message else []) ≡ all_said tid (sent_to q work.out.messages)
        none true = ap (λ (t : List Said). all_said tid (sent_to q work.out.messages) ++ t) nothing ∙ append_nil (all_said tid (sent_to q work.out.messages))
        none false = append_nil (all_said tid (sent_to q work.out.messages))

    by : (b : Bool) → Leaves tid work (if b then record work { out = record work.out { messages = work.out.messages ++ record { to = to; message = message } ∷ [] } } else work)
    by false = leaves_itself tid work
    by true = record { node = same_for_itself tid work.node; quiet = record { sends = no_more; logs = λ log. found_itself tid (forced_log log work) } }

-- ---- a record of another transaction, and one that is not forced

module _ (tid : Tid) (work : Work) (rec : Record) where
  abbrev pub more_records : Work
  more_records = record work { out = record work.out { records = work.out.records ++ rec ∷ [] } }

  abbrev before : List Record → List Record
  before log = log ++ filter is_forced work.out.records

  pub recovery_more : (log : List Record) → is_forced rec ≡ true → forced_log log more_records ≡ found_record (forced_log log work) rec
  recovery_more log is =
      ap (λ (rest : List Record). recovery (log ++ rest)) (filter-append is_forced work.out.records (rec ∷ []) ∙ picked (is_forced rec) is)
      ∙ (ap recovery (sym (append_assoc log (filter is_forced work.out.records) (rec ∷ []))) ∙ recovered_more (before log) rec)
    where
      picked : (b : Bool) → b ≡ true → filter is_forced work.out.records ++ (if b then rec ∷ [] else []) ≡ filter is_forced work.out.records ++ rec ∷ []
      picked b is = rw is refl

  pub recovery_same : (log : List Record) → is_forced rec ≡ false → forced_log log more_records ≡ forced_log log work
  recovery_same log is =
      ap (λ (rest : List Record). recovery (log ++ rest)) (filter-append is_forced work.out.records (rec ∷ []) ∙ dropped (is_forced rec) is)
    where
      dropped : (b : Bool) → b ≡ false → filter is_forced work.out.records ++ (if b then rec ∷ [] else []) ≡ filter is_forced work.out.records
      dropped b is = rw is (append_nil (filter is_forced work.out.records))

  pub record_quiet : Apart tid (record_tid rec) → (log : List Record) → SameFound tid (forced_log log work) (forced_log log more_records)
  record_quiet apart log = by (is_forced rec) refl
    where
      by : (b : Bool) → is_forced rec ≡ b → SameFound tid (forced_log log work) (forced_log log more_records)
      by true is = rw (recovery_more log is) (record_apart tid rec (forced_log log work) apart)
      by false is = rw (recovery_same log is) (found_itself tid (forced_log log work))

-- ---- what is shown

pub face_here : (tid : Tid) (scene : Scene) (n : ℕ) (work : Work) → (sight_during tid scene n work).face n ≡ face_at work.node tid
face_here tid scene n work = by (n == n) (grind (arith, nat_tests))
  where
    by : (b : Bool) → b ≡ true → (if b then face_at work.node tid else face_at (scene.node n) tid) ≡ face_at work.node tid
    by b e = rw e refl

module _ (tid : Tid) (scene : Scene) (n : ℕ) (work new : Work) (w : World) (quiet : Quiet tid work new) where
  abbrev x : Sight
  x = sight_during tid scene n work

  pub said_same : (a k b l : ℕ) → said_during tid scene n new.out.messages a k b l ≡ said_during tid scene n work.out.messages a k b l
  said_same a k b l = rw (quiet.sends b) refl

  pub unmet_same : (a b : ℕ) → unmet_during tid scene n new.out.messages a b ≡ unmet_during tid scene n work.out.messages a b
  unmet_same a b = rw (quiet.sends b) refl

  pub found_same : (k : ℕ) → SameFound tid ((sight_during tid scene n work).found k) ((sight_during tid scene n new).found k)
  found_same k = by (k == n)
    where
      by : (b : Bool) → SameFound tid (if b then forced_log (scene.log n) work else recovery (scene.log k)) (if b then forced_log (scene.log n) new else recovery (scene.log k))
      by true = quiet.logs (scene.log n)
      by false = found_itself tid (recovery (scene.log k))

  -- where an event changed the face of the node, and the node changed so
  pub local_shown : (f : Face) → ShowsSight tid (record x { face = λ k. if k == n then f else x.face k }) w → SameFace f (face_at new.node tid) → ShowsWork tid scene n new w
  local_shown f shown same = sight_alike tid (record x { face = λ k. if k == n then f else x.face k }) (sight_during tid scene n new) w
      (record { size = refl; inc = refl; up = refl; knows = refl; face = faces; said = said_same; unmet = unmet_same; found = found_same }) shown
    where
      faces : (k : ℕ) → SameFace (if k == n then f else x.face k) ((sight_during tid scene n new).face k)
      faces k = by (k == n)
        where
          by : (b : Bool) → SameFace (if b then f else (if b then face_at work.node tid else face_at (scene.node k) tid)) (if b then face_at new.node tid else face_at (scene.node k) tid)
          by true = same
          by false = same_itself (face_at (scene.node k) tid)

pub leaves_shown : (tid : Tid) (scene : Scene) (n : ℕ) (work new : Work) (w : World) → Leaves tid work new → ShowsWork tid scene n work w → ShowsWork tid scene n new w
leaves_shown tid scene n work new w same shown = sight_alike tid (sight_during tid scene n work) (sight_during tid scene n new) w
    (record {
      size = refl;
      inc = refl;
      up = refl;
      knows = refl;
      face = λ k. by k (k == n);
      said = said_same tid scene n work new w same.quiet;
      unmet = unmet_same tid scene n work new w same.quiet;
      found = found_same tid scene n work new w same.quiet;
    }) shown
  where
    by : (k : ℕ) (b : Bool) → SameFace (if b then face_at work.node tid else face_at (scene.node k) tid) (if b then face_at new.node tid else face_at (scene.node k) tid)
    by k true = face_for tid work.node new.node same.node
    by k false = same_itself (face_at (scene.node k) tid)

-- ---- where an event happens

pub runs : (tid : Tid) (scene : Scene) (n : ℕ) (work : Work) → IsAt scene n work → Runs (sight_during tid scene n work) n
runs tid scene n work at = record { in_run = at.in_run; up = at.up }

pub meets : (tid : Tid) (scene : Scene) (n m i : ℕ) (work : Work) → IsKnown scene n m i → Meets (sight_during tid scene n work) n m i
meets tid scene n m i work peer = record { in_run = peer.in_run; other = peer.other; knows = peer.knows; some = peer.some }
