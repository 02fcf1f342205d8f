-- What a server does for one transaction leaves how many changes files have pending for every other, and what another server does leaves all.
use Rattle.qs_world_lawful.proofs.Words.{is_idle, ◌≡◌, ℕ, ◌==◌, Bool, true, false, refl, ap, length, if◌then◌else◌, ServerNo, Tid, ServerValue, changes_in, after_serving, served_by, after_vote, voted_by, after_notice, noted_by, share_of, Op, Reply, ServerKind, Files, Share, Notice, Vote, ServersValue, with_server}
use Rattle.qs_ops.specs.Servers as numbers
use Rattle.qs_ops.specs.declared.server.ServerKind.TheVariants.{Audit, Names, Timers, Windows, Scratch, Nothing}
use Rattle.qs_world_lawful.proofs.Apart.{Apart}
use Rattle.qs_world_lawful.proofs.OtherShares.{share_noted, share_put, share_voted}

-- ---- servers

abbrev counted : Share → ℕ
counted share = length share.changes

pub served_apart : (tid t : Tid) (op : Op) (reply : Reply) (server : ServerValue) → Apart tid t → length (changes_in (after_serving server tid op reply) t) ≡ length (changes_in server t)
served_apart tid t op reply server far = by server.kind
  where
    by : (kind : ServerKind) → length (changes_in (served_by kind tid op reply server) t) ≡ length (changes_in server t)
    by (Files quota) = ap counted (share_put tid t _ server.table far)
    by Audit = ap counted (share_put tid t _ server.table far)
    by Names = ap counted (share_put tid t _ server.table far)
    by Timers = refl
    by Windows = ap counted (share_put tid t _ server.table far)
    by Scratch = ap counted (share_put tid t _ server.table far)
    by Nothing = refl

pub voted_apart : (tid t : Tid) (ballot : Vote) (server : ServerValue) → Apart tid t → length (changes_in (after_vote server tid ballot) t) ≡ length (changes_in server t)
voted_apart tid t ballot server far = by server.kind
  where
    by : (kind : ServerKind) → length (changes_in (voted_by kind tid ballot server) t) ≡ length (changes_in server t)
    by (Files quota) = ap counted (share_voted tid t ballot server.table far)
    by Audit = ap counted (share_voted tid t ballot server.table far)
    by Names = ap counted (share_voted tid t ballot server.table far)
    by Timers = ap counted (share_voted tid t ballot server.table far)
    by Windows = ap counted (share_voted tid t ballot server.table far)
    by Scratch = ap counted (share_voted tid t ballot server.table far)
    by Nothing = refl

pub noted_apart : (tid t : Tid) (notice : Notice) (server : ServerValue) → Apart tid t → length (changes_in (after_notice server tid notice) t) ≡ length (changes_in server t)
noted_apart tid t notice server far = by server.kind
  where
    by : (kind : ServerKind) → length (changes_in (noted_by kind notice tid server) t) ≡ length (changes_in server t)
    by (Files quota) = ap counted (share_noted tid t notice server.table far)
    by Audit = ap counted (share_noted tid t notice server.table far)
    by Names = ap counted (share_noted tid t notice server.table far)
    by Timers = refl
    by Windows = ap counted (share_noted tid t notice server.table far)
    by Scratch = ap counted (share_noted tid t notice server.table far)
    by Nothing = refl

-- of a node: what a change of one server leaves that leaves each other transaction
pub files_apart : (server : ServerNo) (f : ServerValue → ServerValue) (servers : ServersValue) (t : Tid) → ((value : ServerValue) → length (changes_in (f value) t) ≡ length (changes_in value t))
    → length (changes_in (with_server server f servers).files t) ≡ length (changes_in servers.files t)
files_apart server f servers t keeps = by (server.0 == numbers.files_no) (server.0 == numbers.audit_no) (server.0 == numbers.names_no) (server.0 == numbers.timers_no) (server.0 == numbers.windows_no) (server.0 == numbers.scratch_no)
  where
    by : (a b c d e g : Bool) → length (changes_in (if a then record servers { files = f servers.files } else if b then record servers { audit = f servers.audit } else if c then record servers { names = f servers.names }
        else if d then record servers { timers = f servers.timers } else if e then record servers { windows = f servers.windows } else if g then record servers { scratch = f servers.scratch } else record servers { extra = f servers.extra }).files t) ≡ length (changes_in servers.files t)
    by true b c d e g = keeps servers.files
    by false true c d e g = refl
    by false false true d e g = refl
    by false false false true e g = refl
    by false false false false true g = refl
    by false false false false false true = refl
    by false false false false false false = refl

-- ---- what each other transaction holds at files

pub served_share : (tid t : Tid) (op : Op) (reply : Reply) (server : ServerValue) → Apart tid t → share_of (after_serving server tid op reply).table t ≡ share_of server.table t
served_share tid t op reply server far = by server.kind
  where
    by : (kind : ServerKind) → share_of (served_by kind tid op reply server).table t ≡ share_of server.table t
    by (Files quota) = share_put tid t _ server.table far
    by Audit = share_put tid t _ server.table far
    by Names = share_put tid t _ server.table far
    by Timers = refl
    by Windows = share_put tid t _ server.table far
    by Scratch = share_put tid t _ server.table far
    by Nothing = refl

pub voted_share : (tid t : Tid) (ballot : Vote) (server : ServerValue) → Apart tid t → share_of (after_vote server tid ballot).table t ≡ share_of server.table t
voted_share tid t ballot server far = by server.kind
  where
    by : (kind : ServerKind) → share_of (voted_by kind tid ballot server).table t ≡ share_of server.table t
    by (Files quota) = share_voted tid t ballot server.table far
    by Audit = share_voted tid t ballot server.table far
    by Names = share_voted tid t ballot server.table far
    by Timers = share_voted tid t ballot server.table far
    by Windows = share_voted tid t ballot server.table far
    by Scratch = share_voted tid t ballot server.table far
    by Nothing = refl

pub noted_share : (tid t : Tid) (notice : Notice) (server : ServerValue) → Apart tid t → share_of (after_notice server tid notice).table t ≡ share_of server.table t
noted_share tid t notice server far = by server.kind
  where
    by : (kind : ServerKind) → share_of (noted_by kind notice tid server).table t ≡ share_of server.table t
    by (Files quota) = share_noted tid t notice server.table far
    by Audit = share_noted tid t notice server.table far
    by Names = share_noted tid t notice server.table far
    by Timers = refl
    by Windows = share_noted tid t notice server.table far
    by Scratch = share_noted tid t notice server.table far
    by Nothing = refl

-- of a node: what a change of one server leaves of each it leaves of files
pub files_keep : {A : Type 0} (of : ServerValue → A) (server : ServerNo) (f : ServerValue → ServerValue) (servers : ServersValue) → ((value : ServerValue) → of (f value) ≡ of value) → of (with_server server f servers).files ≡ of servers.files
files_keep {A} of server f servers keeps = by (server.0 == numbers.files_no) (server.0 == numbers.audit_no) (server.0 == numbers.names_no) (server.0 == numbers.timers_no) (server.0 == numbers.windows_no) (server.0 == numbers.scratch_no)
  where
    by : (a b c d e g : Bool) → of (if a then record servers { files = f servers.files } else if b then record servers { audit = f servers.audit } else if c then record servers { names = f servers.names }
        else if d then record servers { timers = f servers.timers } else if e then record servers { windows = f servers.windows } else if g then record servers { scratch = f servers.scratch } else record servers { extra = f servers.extra }).files ≡ of servers.files
    by true b c d e g = keeps servers.files
    by false true c d e g = refl
    by false false true d e g = refl
    by false false false true e g = refl
    by false false false false true g = refl
    by false false false false false true = refl
    by false false false false false false = refl

abbrev pub idle_in : Tid → ServerValue → Bool
idle_in t value = is_idle (share_of value.table t)
