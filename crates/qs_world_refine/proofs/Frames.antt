-- What one primitive of a step does for one transaction leaves every other one.
use Rattle.qs_world_refine.proofs.Words.{◌≡◌, true, false, List, [], ◌∷◌, refl, arith, is_at, nat_tests, tid_cmp, NodeNo, Tid, Message, Record, Manager, Participant, send, send_each, log, tid_of, Work, with_manager, said}
use Rattle.qs_tm.specs.Manager as tm
use Rattle.qs_world_refine.proofs.Alike.{found_itself}
use Rattle.qs_world_refine.proofs.During.{Leaves, forced_log, leaves_itself, leaves_on, send_leaves, record_quiet}
use Rattle.qs_world_refine.proofs.LogFrames.{Apart, record_tid}
use Rattle.qs_world_refine.proofs.Maps.{changed_apart}
use Rattle.qs_world_refine.proofs.Reading.{SameFor}

-- nothing is sent, and nothing is logged
pub out_leaves : (t : Tid) (work new : Work) → SameFor t work.node new.node → new.out.messages ≡ work.out.messages → new.out.records ≡ work.out.records → Leaves t work new
out_leaves t work new node messages records = record {
  node = node;
  quiet = record {
    sends = λ q. rw messages refl;
    logs = λ log. rw records (found_itself t (forced_log log work));
  };
}

-- ---- what is kept of another transaction

pub keys_apart : (t tid : Tid) → Apart t tid → (k : Tid) → is_at (tid_cmp t) k ≡ true → is_at (tid_cmp tid) k ≡ false
keys_apart t tid other k is = grind (arith, nat_tests, other, is)

pub part_apart : (t tid : Tid) (f : Participant → Participant) (manager : Manager) → Apart t tid → tm.part_of t (tm.with_part tid f manager) ≡ tm.part_of t manager
part_apart t tid f manager apart = changed_apart (is_at (tid_cmp tid)) (is_at (tid_cmp t)) (keys_apart t tid apart) f manager.known

pub part_leaves : (t tid : Tid) (f : Participant → Participant) (work : Work) → Apart t tid → Leaves t work (with_manager (tm.with_part tid f) work)
part_leaves t tid f work apart = out_leaves t work (with_manager (tm.with_part tid f) work)
    (record { around = record { setting = refl; waits = λ s. refl; loans = refl; past = refl }; part = part_apart t tid f work.node.manager apart }) refl refl

-- ---- messages and records

pub sends_leave : (t : Tid) (nodes : List NodeNo) (message : Message) (work : Work) → said t message ≡ [] → Leaves t work (send_each nodes message work)
sends_leave t [] message work nothing = leaves_itself t work
sends_leave t (node ∷ nodes) message work nothing =
    leaves_on t work (send node message work) (send_each nodes message (send node message work)) (send_leaves t node message work nothing) (sends_leave t nodes message (send node message work) nothing)

pub same_record : (rec : Record) → tid_of rec ≡ record_tid rec
same_record rec = elim rec [
  | Rattle.qs_record.specs.declared.record.Record.TheVariants.Prepare tid server covers changes ↦ refl
  | Rattle.qs_record.specs.declared.record.Record.TheVariants.Commit tid told ↦ refl
  | Rattle.qs_record.specs.declared.record.Record.TheVariants.Aborted tid ↦ refl
  | Rattle.qs_record.specs.declared.record.Record.TheVariants.End tid ↦ refl
]

pub log_leaves : (t : Tid) (rec : Record) (work : Work) → Apart t (tid_of rec) → Leaves t work (log rec work)
log_leaves t rec work apart = record {
  node = record { around = record { setting = refl; waits = λ s. refl; loans = refl; past = refl }; part = part_apart t (tid_of rec) _ work.node.manager apart };
  quiet = record { sends = λ q. refl; logs = λ log. record_quiet t work rec (rw (same_record rec) at apart) log };
}
