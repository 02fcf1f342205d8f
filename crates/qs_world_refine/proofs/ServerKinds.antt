-- A server that is changed stays of its kind, and so do the others.
use Rattle.qs_world_refine.proofs.Words.{◌≡◌, ℕ, ◌==◌, Bool, true, false, refl, if◌then◌else◌, ServerNo, Tid, ServerValue, after_vote, after_notice, after_serving, Op, Reply, ServerKind, Vote, ServersValue, server_at, with_server}
use Rattle.qs_ops.specs.Server.{voted_by, noted_by, served_by}
use Rattle.qs_ops.specs.Servers as numbers
use Rattle.qs_ops.specs.declared.server.ServerKind.TheVariants as kinds
use Rattle.qs_ops.specs.declared.vote.Notice.{Notice}

module _ (f : ServerValue → ServerValue) (keeps : (value : ServerValue) → (f value).kind ≡ value.kind) where
  here : (t : Bool) (x y : ServerValue) → ◌≡◌ {A = ServerKind} (if t then f x else y).kind (if t then x else y).kind
  here true x y = keeps x
  here false x y = refl

  there : (t : Bool) (x y z : ServerValue) → z.kind ≡ y.kind → ◌≡◌ {A = ServerKind} (if t then x else z).kind (if t then x else y).kind
  there true x y z same = refl
  there false x y z same = same

  last : (t : Bool) (x y : ServerValue) → ◌≡◌ {A = ServerKind} (if t then x else f y).kind (if t then x else y).kind
  last true x y = refl
  last false x y = keeps y

  module _ (r : ℕ) (values : ServersValue) where
    abbrev after_0 : ServerValue
    after_0 = if r == numbers.audit_no then values.audit else if r == numbers.names_no then values.names else if r == numbers.timers_no then values.timers else if r == numbers.windows_no then values.windows else if r == numbers.scratch_no then values.scratch else values.extra

    abbrev pub kind_at : ServersValue → ServerKind
    kind_at some = (server_at some (record { 0 = r })).kind

    by_0 : kind_at (record values { files = f values.files }) ≡ kind_at values
    by_0 = here (r == numbers.files_no) values.files after_0

    by_1 : kind_at (record values { audit = f values.audit }) ≡ kind_at values
    by_1 = there (r == numbers.files_no) values.files _ _ (here (r == numbers.audit_no) values.audit _)

    by_2 : kind_at (record values { names = f values.names }) ≡ kind_at values
    by_2 = there (r == numbers.files_no) values.files _ _ (there (r == numbers.audit_no) values.audit _ _ (here (r == numbers.names_no) values.names _))

    by_3 : kind_at (record values { timers = f values.timers }) ≡ kind_at values
    by_3 = there (r == numbers.files_no) values.files _ _ (there (r == numbers.audit_no) values.audit _ _ (there (r == numbers.names_no) values.names _ _ (here (r == numbers.timers_no) values.timers _)))

    by_4 : kind_at (record values { windows = f values.windows }) ≡ kind_at values
    by_4 = there (r == numbers.files_no) values.files _ _ (there (r == numbers.audit_no) values.audit _ _ (there (r == numbers.names_no) values.names _ _ (there (r == numbers.timers_no) values.timers _ _ (here (r == numbers.windows_no) values.windows _))))

    by_5 : kind_at (record values { scratch = f values.scratch }) ≡ kind_at values
    by_5 = there (r == numbers.files_no) values.files _ _ (there (r == numbers.audit_no) values.audit _ _ (there (r == numbers.names_no) values.names _ _ (there (r == numbers.timers_no) values.timers _ _
        (there (r == numbers.windows_no) values.windows _ _ (here (r == numbers.scratch_no) values.scratch _)))))

    by_6 : kind_at (record values { extra = f values.extra }) ≡ kind_at values
    by_6 = there (r == numbers.files_no) values.files _ _ (there (r == numbers.audit_no) values.audit _ _ (there (r == numbers.names_no) values.names _ _ (there (r == numbers.timers_no) values.timers _ _
        (there (r == numbers.windows_no) values.windows _ _ (last (r == numbers.scratch_no) values.scratch values.extra)))))

    pub kind_kept : (server : ServerNo) → kind_at (with_server server f values) ≡ kind_at values
    kind_kept server = by (server.0 == numbers.files_no) (server.0 == numbers.audit_no) (server.0 == numbers.names_no) (server.0 == numbers.timers_no) (server.0 == numbers.windows_no) (server.0 == numbers.scratch_no)
      where
        by : (a b c d e g : Bool) → kind_at (
            if a then record values { files = f values.files }
            else if b then record values { audit = f values.audit }
            else if c then record values { names = f values.names }
            else if d then record values { timers = f values.timers }
            else if e then record values { windows = f values.windows }
            else if g then record values { scratch = f values.scratch }
            else record values { extra = f values.extra }) ≡ kind_at values
        by true b c d e g = by_0
        by false true c d e g = by_1
        by false false true d e g = by_2
        by false false false true e g = by_3
        by false false false false true g = by_4
        by false false false false false true = by_5
        by false false false false false false = by_6

-- ---- what is done to a server of a node

pub vote_kind : (value : ServerValue) (tid : Tid) (ballot : Vote) → (after_vote value tid ballot).kind ≡ value.kind
vote_kind value tid ballot = by value.kind
  where
    by : (k : ServerKind) → (voted_by k tid ballot value).kind ≡ value.kind
    by (kinds.Files quota) = refl
    by kinds.Audit = refl
    by kinds.Names = refl
    by kinds.Timers = refl
    by kinds.Windows = refl
    by kinds.Scratch = refl
    by kinds.Nothing = refl

pub notice_kind : (value : ServerValue) (tid : Tid) (notice : Notice) → (after_notice value tid notice).kind ≡ value.kind
notice_kind value tid notice = by value.kind
  where
    by : (k : ServerKind) → (noted_by k notice tid value).kind ≡ value.kind
    by (kinds.Files quota) = refl
    by kinds.Audit = refl
    by kinds.Names = refl
    by kinds.Timers = refl
    by kinds.Windows = refl
    by kinds.Scratch = refl
    by kinds.Nothing = refl

pub serving_kind : (value : ServerValue) (tid : Tid) (op : Op) (reply : Reply) → (after_serving value tid op reply).kind ≡ value.kind
serving_kind value tid op reply = by value.kind
  where
    by : (k : ServerKind) → (served_by k tid op reply value).kind ≡ value.kind
    by (kinds.Files quota) = refl
    by kinds.Audit = refl
    by kinds.Names = refl
    by kinds.Timers = refl
    by kinds.Windows = refl
    by kinds.Scratch = refl
    by kinds.Nothing = refl
