-- Notices to the servers of a node leave it sound over its log, and what it keeps of a transaction known.
use Rattle.qs_world_refine.proofs.Words.{◌≡◌, List, [], ◌∷◌, fold, Some, refl, ◌∙◌, is_at, tid_cmp, ServerNo, Tid, after_notice, aborted_participant, record_of, writes_commit, Manager, InLog, Participant, notify, end_member, due_endings, end_members, learn_member, learners_at, learn_members, give_notices, Work, part_of, with_manager, change_server, SaysOn}
use Rattle.qs_base.specs.declared.identifiers.Outcome.{Outcome}
use Rattle.qs_base.specs.declared.identifiers.Outcome.TheVariants as outcomes
use Rattle.qs_ops.specs.declared.vote.Notice.{Notice}
use Rattle.qs_tm.specs.Manager as tm
use Rattle.qs_tm.specs.Outcomes as outcome_rules
use Rattle.qs_node_step.specs.Deciding.{notice_of}
use Rattle.qs_world_refine.proofs.Maps.{lookup_changed}
use Rattle.qs_world_refine.proofs.SaysOn.{on_then, fold_on, enter_on, server_on, part_on}

-- ---- notices

notify_on : (tid : Tid) (notice : Notice) (server : ServerNo) (work : Work) → SaysOn work (notify tid notice server work)
notify_on tid notice server work = on_then (server_on server (λ value. after_notice value tid notice) work) (part_on tid (outcome_rules.settled server) (λ part. (refl, refl)) (change_server server (λ value. after_notice value tid notice) work))

end_member_on : (tid : Tid) (work : Work) (server : ServerNo) → SaysOn work (end_member tid work server)
end_member_on tid work server = on_then (notify_on tid Rattle.qs_ops.specs.declared.vote.Notice.TheVariants.Ending server work) (enter_on _ _)

pub end_members_on : (tid : Tid) (work : Work) → SaysOn work (end_members tid work)
end_members_on tid work = fold_on (end_member tid) (end_member_on tid) (due_endings tid work) work

learn_member_on : (tid : Tid) (outcome : Outcome) (work : Work) (server : ServerNo) → SaysOn work (learn_member tid outcome work server)
learn_member_on tid outcome work server = on_then (notify_on tid (notice_of outcome) server work) (enter_on _ _)

learn_members_on : (tid : Tid) (outcome : Outcome) (work : Work) → SaysOn work (learn_members tid outcome work)
learn_members_on tid outcome work = fold_on (learn_member tid outcome) (learn_member_on tid outcome) (learners_at tid work) work

pub notices_on : (tid : Tid) (outcome : Outcome) (work : Work) → SaysOn work (give_notices tid outcome work)
notices_on tid outcomes.Commit work = learn_members_on tid outcomes.Commit work
notices_on tid outcomes.Abort work = on_then (end_members_on tid work) (learn_members_on tid outcomes.Abort (end_members tid work))

-- the transaction stays known
abbrev pub IsKnown : Tid → Work → Type 0
IsKnown tid work = (part : Participant) × (part_of tid work ≡ Some part)

-- with what the log has of it
pub record IsLoggedAs (tid : Tid) (flags : InLog) (manager : Manager) : Type 0 where
  pub part : Participant
  pub known : tm.part_of tid manager ≡ Some part
  pub flags_are : part.log ≡ flags

pub part_logged : (tid : Tid) (flags : InLog) (f : Participant → Participant) → ((part : Participant) → (f part).log ≡ part.log) → (manager : Manager) → IsLoggedAs tid flags manager → IsLoggedAs tid flags (tm.with_part tid f manager)
part_logged tid flags f same manager is = record { part = f is.part; known = lookup_changed (is_at (tid_cmp tid)) f manager.known is.part is.known; flags_are = same is.part ∙ is.flags_are }

pub learns_logged : (tid : Tid) (flags : InLog) (outcome : Outcome) (servers : List ServerNo) (work : Work) → IsLoggedAs tid flags work.node.manager → IsLoggedAs tid flags (fold (learn_member tid outcome) work servers).node.manager
learns_logged tid flags outcome [] work is = is
learns_logged tid flags outcome (server ∷ servers) work is = learns_logged tid flags outcome servers (learn_member tid outcome work server) (part_logged tid flags (outcome_rules.settled server) (λ part. refl) work.node.manager is)

pub part_known : (tid : Tid) (f : Participant → Participant) (work : Work) → IsKnown tid work → IsKnown tid (with_manager (tm.with_part tid f) work)
part_known tid f work known = (f known.0, lookup_changed (is_at (tid_cmp tid)) f work.node.manager.known known.0 known.1)

learns_known : (tid : Tid) (outcome : Outcome) (servers : List ServerNo) (work : Work) → IsKnown tid work → IsKnown tid (fold (learn_member tid outcome) work servers)
learns_known tid outcome [] work known = known
learns_known tid outcome (server ∷ servers) work known = learns_known tid outcome servers (learn_member tid outcome work server)
    (part_known tid (outcome_rules.settled server) (change_server server (λ value. after_notice value tid (notice_of outcome)) work) known)

ends_known : (tid : Tid) (servers : List ServerNo) (work : Work) → IsKnown tid work → IsKnown tid (fold (end_member tid) work servers)
ends_known tid [] work known = known
ends_known tid (server ∷ servers) work known = ends_known tid servers (end_member tid work server)
    (part_known tid (outcome_rules.settled server) (change_server server (λ value. after_notice value tid Rattle.qs_ops.specs.declared.vote.Notice.TheVariants.Ending) work) known)

pub notices_known : (tid : Tid) (outcome : Outcome) (work : Work) → IsKnown tid work → IsKnown tid (give_notices tid outcome work)
notices_known tid outcomes.Commit work known = learns_known tid outcomes.Commit (learners_at tid work) work known
notices_known tid outcomes.Abort work known = learns_known tid outcomes.Abort (learners_at tid (end_members tid work)) (end_members tid work) (ends_known tid (due_endings tid work) work known)
