-- The servers of a node learn how a transaction ends, and what the machine sees of the node stays.
use Rattle.qs_world_refine.proofs.Words.{◌≡◌, ℕ, ◌==◌, nat_lt, Bool, true, false, List, [], ◌∷◌, fold, length, refl, sym, ap, ◌∙◌, arith, if◌then◌else◌, slice_index_or, eqb-true, nat_tests, set_past, ServerNo, Tid, after_notice, no_member, member_of, MemberPart, Participant, notify, end_member, end_members, due_endings, learn_member, learners_at, give_notices, NodeValue, Work, change_server, face, uncast_of, server_no}
use Rattle.qs_base.specs.declared.identifiers.Outcome.{Outcome}
use Rattle.qs_base.specs.declared.identifiers.Outcome.TheVariants as outcomes
use Rattle.qs_ops.specs.declared.vote.Notice.{Notice}
use Rattle.qs_ops.specs.declared.vote.Notice.TheVariants as notices
use Rattle.qs_tm.specs.Outcomes as outcome_rules
use Rattle.qs_node_step.specs.Deciding.{notice_of}
use Rattle.qs_world_refine.proofs.Alike.{SameFace}
use Rattle.qs_world_refine.proofs.Arrays.{member_put}
use Rattle.qs_world_refine.proofs.Frames.{out_leaves}
use Rattle.qs_world_refine.proofs.Keeping.{Keeps, keeps_itself, keeps_on, leaves_keeps, part_keeps}

-- nothing is sent, and nothing is logged
pub record Silent (work new : Work) : Type 0 where
  pub messages : new.out.messages ≡ work.out.messages
  pub records : new.out.records ≡ work.out.records
  pub setting : new.node.setting ≡ work.node.setting

-- and the face stays too
pub record Learns (tid : Tid) (work new : Work) : Type 0 where
  pub keeps : Keeps tid work new
  pub silent : Silent work new

learns_on : (tid : Tid) (a b c : Work) → Learns tid a b → Learns tid b c → Learns tid a c
learns_on tid a b c first second = record {
  keeps = keeps_on tid a b c first.keeps second.keeps;
  silent = record { messages = second.silent.messages ∙ first.silent.messages; records = second.silent.records ∙ first.silent.records; setting = second.silent.setting ∙ first.silent.setting };
}

-- ---- a server is not to learn any more: its votes stand

pub uncast_settled : (server : ServerNo) (part : Participant) (r : ℕ) → uncast_of (member_of (outcome_rules.settled server part) (server_no r)) ≡ uncast_of (member_of part (server_no r))
uncast_settled server part r = by (nat_lt server.0 (length part.members)) refl
  where
    within : (b : Bool) → (r == server.0) ≡ b → uncast_of (if b then record (member_of part server) { fresh = false } else member_of part (server_no r)) ≡ uncast_of (member_of part (server_no r))
    within true e = ap (λ (k : ℕ). uncast_of (member_of part (server_no k))) (sym (eqb-true r server.0 e))
    within false e = refl

    by : (b : Bool) → nat_lt server.0 (length part.members) ≡ b → uncast_of (member_of (outcome_rules.settled server part) (server_no r)) ≡ uncast_of (member_of part (server_no r))
    by true below = ap uncast_of (member_put server.0 r (record (member_of part server) { fresh = false }) part (grind (arith, nat_tests, below))) ∙ within (r == server.0) refl
    by false past = ap (λ (l : List MemberPart). uncast_of (slice_index_or l r no_member)) (set_past part.members server.0 (record (member_of part server) { fresh = false }) (grind (arith, nat_tests, past)))

settled_hidden : (tid : Tid) (server : ServerNo) (node : NodeValue) (part : Participant) → SameFace (face node tid part) (face node tid (outcome_rules.settled server part))
settled_hidden tid server node part = record { is_home = refl; on = refl; superior = refl; last = λ m. refl; sent = λ m. refl; covered = λ m. refl; waits = λ s. refl; uncast = uncast_settled server part; loans = refl; asked = refl; blocked = refl; involved = refl; told = λ m. refl; outcome = refl; tell = λ m. refl }

notified : (tid : Tid) (notice : Notice) (server : ServerNo) (work new : Work) → Keeps tid (notify tid notice server work) new → Keeps tid work new
notified tid notice server work new after =
    let told : Work = change_server server (λ value. after_notice value tid notice) work in
    keeps_on tid work told new (leaves_keeps tid work told (out_leaves tid work told (record { around = record { setting = refl; waits = λ s. refl; loans = refl; past = refl }; part = refl }) refl refl))
    (keeps_on tid told (notify tid notice server work) new (part_keeps tid (outcome_rules.settled server) told (settled_hidden tid server told.node)) after)

pub end_learns : (tid : Tid) (work : Work) (server : ServerNo) → Learns tid work (end_member tid work server)
end_learns tid work server = record {
  keeps = notified tid notices.Ending server work (end_member tid work server)
      (leaves_keeps tid (notify tid notices.Ending server work) (end_member tid work server) (out_leaves tid (notify tid notices.Ending server work) (end_member tid work server) (record { around = record { setting = refl; waits = λ s. refl; loans = refl; past = refl }; part = refl }) refl refl));
  silent = record { messages = refl; records = refl; setting = refl };
}

learn_learns : (tid : Tid) (outcome : Outcome) (work : Work) (server : ServerNo) → Learns tid work (learn_member tid outcome work server)
learn_learns tid outcome work server = record {
  keeps = notified tid (notice_of outcome) server work (learn_member tid outcome work server)
      (leaves_keeps tid (notify tid (notice_of outcome) server work) (learn_member tid outcome work server) (out_leaves tid (notify tid (notice_of outcome) server work) (learn_member tid outcome work server) (record { around = record { setting = refl; waits = λ s. refl; loans = refl; past = refl }; part = refl }) refl refl));
  silent = record { messages = refl; records = refl; setting = refl };
}

pub all_learn : (tid : Tid) (f : Work → ServerNo → Work) → ((work : Work) (server : ServerNo) → Learns tid work (f work server)) → (servers : List ServerNo) (work : Work) → Learns tid work (fold f work servers)
all_learn tid f each [] work = record { keeps = keeps_itself tid work; silent = record { messages = refl; records = refl; setting = refl } }
all_learn tid f each (server ∷ servers) work = learns_on tid work (f work server) (fold f (f work server) servers) (each work server) (all_learn tid f each servers (f work server))

pub notices_learn : (tid : Tid) (outcome : Outcome) (work : Work) → Learns tid work (give_notices tid outcome work)
notices_learn tid outcomes.Commit work = all_learn tid (learn_member tid outcomes.Commit) (learn_learns tid outcomes.Commit) (learners_at tid work) work
notices_learn tid outcomes.Abort work =
    learns_on tid work (end_members tid work) (give_notices tid outcomes.Abort work) (all_learn tid (end_member tid) (end_learns tid) (due_endings tid work) work)
    (all_learn tid (learn_member tid outcomes.Abort) (learn_learns tid outcomes.Abort) (learners_at tid (end_members tid work)) (end_members tid work))
