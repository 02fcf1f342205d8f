-- No rule but a tick moves the clock of timers.
use Rattle.qs_world_lawful.proofs.Words.{◌≡◌, ◌==◌, Bool, true, false, refl, if◌then◌else◌, ServerNo, Tid, ServerValue, after_notice, after_serving, after_vote, noted_by, served_by, voted_by, Notice, Op, Reply, ServerKind, Vote, ServersValue, with_server}
use Rattle.qs_ops.specs.declared.vote.Notice.TheVariants as notices
use Rattle.qs_ops.specs.declared.server.ServerKind.TheVariants as kinds

pub ticks_still : (server : ServerNo) (f : ServerValue → ServerValue) → ((value : ServerValue) → (f value).timers.ticks ≡ value.timers.ticks) → (servers : ServersValue) → (with_server server f servers).timers.timers.ticks ≡ servers.timers.timers.ticks
ticks_still server f keeps servers = by (server.0 == 0) (server.0 == 1) (server.0 == 2) (server.0 == 3) (server.0 == 4) (server.0 == 5)
  where
    by : (a b c d e g : Bool) → (if a then record servers { files = f servers.files } else if b then record servers { audit = f servers.audit } else if c then record servers { names = f servers.names }
        else if d then record servers { timers = f servers.timers } else if e then record servers { windows = f servers.windows } else if g then record servers { scratch = f servers.scratch } else record servers { extra = f servers.extra }).timers.timers.ticks
        ≡ servers.timers.timers.ticks
    by true b c d e g = refl
    by false true c d e g = refl
    by false false true d e g = refl
    by false false false true e g = keeps servers.timers
    by false false false false true g = refl
    by false false false false false true = refl
    by false false false false false false = refl

pub serving_ticks : (tid : Tid) (op : Op) (reply : Reply) (value : ServerValue) → (after_serving value tid op reply).timers.ticks ≡ value.timers.ticks
serving_ticks tid op reply value = by value.kind
  where
    by : (kind : ServerKind) → (served_by kind tid op reply value).timers.ticks ≡ value.timers.ticks
    by (kinds.Files quota) = refl
    by kinds.Audit = refl
    by kinds.Names = refl
    by kinds.Timers = refl
    by kinds.Windows = refl
    by kinds.Scratch = refl
    by kinds.Nothing = refl

pub voting_ticks : (tid : Tid) (ballot : Vote) (value : ServerValue) → (after_vote value tid ballot).timers.ticks ≡ value.timers.ticks
voting_ticks tid ballot value = by value.kind
  where
    by : (kind : ServerKind) → (voted_by kind tid ballot value).timers.ticks ≡ value.timers.ticks
    by (kinds.Files quota) = refl
    by kinds.Audit = refl
    by kinds.Names = refl
    by kinds.Timers = refl
    by kinds.Windows = refl
    by kinds.Scratch = refl
    by kinds.Nothing = refl

pub notice_ticks : (tid : Tid) (notice : Notice) (value : ServerValue) → (after_notice value tid notice).timers.ticks ≡ value.timers.ticks
notice_ticks tid notice value = by value.kind notice
  where
    by : (kind : ServerKind) (n : Notice) → (noted_by kind n tid value).timers.ticks ≡ value.timers.ticks
    by (kinds.Files quota) n = refl
    by kinds.Audit n = refl
    by kinds.Names n = refl
    by kinds.Timers notices.Commit = refl
    by kinds.Timers notices.Abort = refl
    by kinds.Timers notices.Ending = refl
    by kinds.Windows n = refl
    by kinds.Scratch n = refl
    by kinds.Nothing n = refl
