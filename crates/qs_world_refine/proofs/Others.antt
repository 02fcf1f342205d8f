-- What a message makes of its transaction leaves every other one.
use Rattle.qs_world_refine.proofs.Words.{◌≡◌, nat_lt, Bool, true, false, List, [], ◌∷◌, fold, Option, Some, None, refl, ap, arith, if◌then◌else◌, lookup, remove_entry, is_at, nat_tests, tid_exact, tid_cmp, ServerNo, Tid, IpcValue, queue_at, server_cmp, count_of, Record, Manager, Participant, log_if, tid_of, notify, end_member, end_members, due_endings, learn_member, learners_at, give_notices, Work, with_manager, with_queues, server_no}
use Rattle.qs_base.specs.declared.identifiers.Outcome.{Outcome}
use Rattle.qs_base.specs.declared.identifiers.Outcome.TheVariants as outcomes
use Rattle.qs_ipc.specs.Ipc as ipc
use Rattle.qs_ipc.specs.Ipc.{forgotten_below}
use Rattle.qs_ops.specs.declared.vote.Notice.{Notice}
use Rattle.qs_tm.specs.Manager as tm
use Rattle.qs_tm.specs.Outcomes as outcome_rules
use Rattle.qs_tm.specs.Participant as participant
use Rattle.qs_world_refine.proofs.During.{Leaves, leaves_itself, leaves_on}
use Rattle.qs_world_refine.proofs.Frames.{out_leaves, part_apart, log_leaves, keys_apart}
use Rattle.qs_world_refine.proofs.LogFrames.{Apart}
use Rattle.qs_world_refine.proofs.Maps.{lookup_put_apart}

-- ---- one piece after another

pub fold_leaves : {X : Type 0} (t : Tid) (f : Work → X → Work) → ((work : Work) (x : X) → Leaves t work (f work x)) → (xs : List X) (work : Work) → Leaves t work (fold f work xs)
fold_leaves t f each [] work = leaves_itself t work
fold_leaves t f each (x ∷ xs) work = leaves_on t work (f work x) (fold f (f work x) xs) (each work x) (fold_leaves t f each xs (f work x))

-- nothing of the node changes for it but what it keeps of others
pub manager_leaves : (t : Tid) (f : Manager → Manager) (work : Work) → tm.part_of t (f work.node.manager) ≡ tm.part_of t work.node.manager → Leaves t work (with_manager f work)
manager_leaves t f work same = out_leaves t work (with_manager f work) (record { around = record { setting = refl; waits = λ s. refl; loans = refl; past = refl }; part = same }) refl refl

-- ---- another transaction becomes known, or unknown

pub key_apart : (t tid : Tid) → Apart t tid → is_at (tid_cmp t) tid ≡ false
key_apart t tid apart = grind (arith, nat_tests, apart)

pub put_apart : (t tid : Tid) (part : Participant) (manager : Manager) → Apart t tid → tm.part_of t (tm.put_part tid part manager) ≡ tm.part_of t manager
put_apart t tid part manager apart = lookup_put_apart tid_cmp tid part (tid_exact tid) (is_at (tid_cmp t)) (key_apart t tid apart) manager.known

remove_apart : {V : Type 0} (p q : Tid → Bool) → ((k : Tid) → q k ≡ true → p k ≡ false) → (es : List (Tid × V)) → lookup q (remove_entry p es) ≡ lookup q es
remove_apart p q apart [] = refl
remove_apart p q apart (e ∷ es) = by (p e.0) (q e.0) refl refl (remove_apart p q apart es)
  where
    by : (b c : Bool) → p e.0 ≡ b → q e.0 ≡ c → lookup q (remove_entry p es) ≡ lookup q es → lookup q (remove_entry p (e ∷ es)) ≡ lookup q (e ∷ es)
    by true true is has more = let off : p e.0 ≡ false = apart e.0 has in absurd (cc (is, off))
    by true false is has more = rw (is, has) refl
    by false true is has more = rw (is, has) refl
    by false false is has more = rw (is, has) more

pub meet_apart : (t tid : Tid) (manager : Manager) → Apart t tid → tm.part_of t (tm.meet tid manager) ≡ tm.part_of t manager
meet_apart t tid manager apart = by (tm.knows tid manager)
  where
    by : (b : Bool) → tm.part_of t (if b then manager else tm.put_part tid (participant.new_participant (tm.is_home tid manager)) manager) ≡ tm.part_of t manager
    by true = refl
    by false = put_apart t tid (participant.new_participant (tm.is_home tid manager)) manager apart

pub keep_abort_apart : (t tid : Tid) (manager : Manager) → Apart t tid → tm.part_of t (tm.keep_abort tid manager) ≡ tm.part_of t manager
keep_abort_apart t tid manager apart = by (tm.knows tid manager)
  where
    by : (b : Bool) → tm.part_of t (if b then manager else tm.put_part tid (outcome_rules.aborted_participant (tm.is_home tid manager)) manager) ≡ tm.part_of t manager
    by true = refl
    by false = put_apart t tid (outcome_rules.aborted_participant (tm.is_home tid manager)) manager apart

pub forget_apart : (t tid : Tid) (manager : Manager) → Apart t tid → tm.part_of t (tm.forget tid manager) ≡ tm.part_of t manager
forget_apart t tid manager apart = remove_apart (is_at (tid_cmp tid)) (is_at (tid_cmp t)) (keys_apart t tid apart) manager.known

-- ---- what waits stays where a transaction is forgotten

forgotten_waiting : (tid : Tid) (es : IpcValue) (s : ServerNo) → (queue_at (ipc.forget tid es) s).waiting ≡ (queue_at es s).waiting
forgotten_waiting tid [] s = refl
forgotten_waiting tid (e ∷ es) s = by (nat_lt e.0.0 ipc.servers) (is_at (server_cmp s) e.0) refl refl (forgotten_waiting tid es s)
  where
    by : (b c : Bool) → nat_lt e.0.0 ipc.servers ≡ b → is_at (server_cmp s) e.0 ≡ c → (queue_at (ipc.forget tid es) s).waiting ≡ (queue_at es s).waiting
        → (queue_at (ipc.forget tid (e ∷ es)) s).waiting ≡ (queue_at (e ∷ es) s).waiting
    by true true is has more = rw (is, has) refl
    by true false is has more = rw (is, has) more
    by false true is has more = rw (is, has) refl
    by false false is has more = rw (is, has) more

pub forget_queues_leave : (t tid : Tid) (work : Work) → Leaves t work (with_queues (ipc.forget tid) work)
forget_queues_leave t tid work = out_leaves t work (with_queues (ipc.forget tid) work)
    (record { around = record { setting = refl; waits = λ s. ap (count_of t) (forgotten_waiting tid work.node.queues (server_no s)); loans = refl; past = refl }; part = refl }) refl refl

-- ---- records

pub log_if_leaves : (t : Tid) (rec : Option Record) (work : Work) → ((r : Record) → rec ≡ Some r → Apart t (tid_of r)) → Leaves t work (log_if rec work)
log_if_leaves t None work apart = leaves_itself t work
log_if_leaves t (Some rec) work apart = log_leaves t rec work (apart rec refl)

-- ---- notices

notify_leaves : (t tid : Tid) (notice : Notice) (server : ServerNo) (work : Work) → Apart t tid → Leaves t work (notify tid notice server work)
notify_leaves t tid notice server work apart = out_leaves t work (notify tid notice server work)
    (record { around = record { setting = refl; waits = λ s. refl; loans = refl; past = refl }; part = part_apart t tid (outcome_rules.settled server) work.node.manager apart }) refl refl

end_leaves : (t tid : Tid) → Apart t tid → (work : Work) (server : ServerNo) → Leaves t work (end_member tid work server)
end_leaves t tid apart work server = out_leaves t work (end_member tid work server)
    (record { around = record { setting = refl; waits = λ s. refl; loans = refl; past = refl }; part = part_apart t tid (outcome_rules.settled server) work.node.manager apart }) refl refl

learn_leaves : (t tid : Tid) (outcome : Outcome) → Apart t tid → (work : Work) (server : ServerNo) → Leaves t work (learn_member tid outcome work server)
learn_leaves t tid outcome apart work server = out_leaves t work (learn_member tid outcome work server)
    (record { around = record { setting = refl; waits = λ s. refl; loans = refl; past = refl }; part = part_apart t tid (outcome_rules.settled server) work.node.manager apart }) refl refl

pub ends_leave : (t tid : Tid) (work : Work) → Apart t tid → Leaves t work (end_members tid work)
ends_leave t tid work apart = fold_leaves t (end_member tid) (end_leaves t tid apart) (due_endings tid work) work

pub notices_leave : (t tid : Tid) (outcome : Outcome) (work : Work) → Apart t tid → Leaves t work (give_notices tid outcome work)
notices_leave t tid outcomes.Commit work apart = fold_leaves t (learn_member tid outcomes.Commit) (learn_leaves t tid outcomes.Commit apart) (learners_at tid work) work
notices_leave t tid outcomes.Abort work apart =
    leaves_on t work (end_members tid work) (give_notices tid outcomes.Abort work) (ends_leave t tid work apart)
    (fold_leaves t (learn_member tid outcomes.Abort) (learn_leaves t tid outcomes.Abort apart) (learners_at tid (end_members tid work)) (end_members tid work))
