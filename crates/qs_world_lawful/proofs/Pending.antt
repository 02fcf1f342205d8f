-- How many changes files have pending after a vote or a notice is what the machine counts then.
use Rattle.qs_world_lawful.proofs.Words.{◌≡◌, ℕ, ◌==◌, Bool, true, false, Option, refl, sym, ap, subst, ◌∙◌, length, unwrap_or, if◌then◌else◌, is_at, tid_cmp, Outcome, ServerNo, Tid, tid_total, at_exact, IsRising, put_rises, remove_rises, removed, ServerValue, changes_in, after_vote, voted_by, voted_in, after_notice, noted_by, noted_in, TableValue, share_of, nothing_held, released, applied, ServerKind, Files, Share, Notice, Vote, ServersValue, with_server, notice_of, HoldsFiles}
use Rattle.qs_base.specs.declared.identifiers.Outcome.TheVariants as outcomes
use Rattle.qs_ops.specs.Servers as numbers
use Rattle.qs_ops.specs.declared.vote.Notice.TheVariants as notices
use Rattle.qs_ops.specs.declared.vote.Vote.TheVariants as votes

-- ---- files among the servers

pub files_elsewhere : (server : ServerNo) (u : ServerValue → ServerValue) (servers : ServersValue) → (server.0 == numbers.files_no) ≡ false → (with_server server u servers).files ≡ servers.files
files_elsewhere server u servers far = by (server.0 == numbers.files_no) (server.0 == numbers.audit_no) (server.0 == numbers.names_no) (server.0 == numbers.timers_no) (server.0 == numbers.windows_no) (server.0 == numbers.scratch_no) far
  where
    by : (a b c d e g : Bool) → a ≡ false → (if a then record servers { files = u servers.files } else if b then record servers { audit = u servers.audit } else if c then record servers { names = u servers.names }
        else if d then record servers { timers = u servers.timers } else if e then record servers { windows = u servers.windows } else if g then record servers { scratch = u servers.scratch } else record servers { extra = u servers.extra }).files ≡ servers.files
    by true b c d e g is = absurd (cc is)
    by false true c d e g is = refl
    by false false true d e g is = refl
    by false false false true e g is = refl
    by false false false false true g is = refl
    by false false false false false true is = refl
    by false false false false false false is = refl

pub files_here : (server : ServerNo) (u : ServerValue → ServerValue) (servers : ServersValue) → (server.0 == numbers.files_no) ≡ true → (with_server server u servers).files ≡ u servers.files
files_here server u servers is = rw is refl

-- ---- what nothing holds

pub gone : (table : TableValue) (tid : Tid) → IsRising tid_cmp table.shares → share_of (released table tid) tid ≡ nothing_held
gone table tid rising = ap (λ (o : Option Share). unwrap_or o nothing_held) (removed tid_cmp at_exact tid table.shares rising)

-- ---- a notice

noted_rises : (notice : Notice) (tid : Tid) (table : TableValue) → IsRising tid_cmp table.shares → IsRising tid_cmp (noted_in notice tid table).shares
noted_rises notices.Commit tid table rising = remove_rises tid_cmp (is_at (tid_cmp tid)) table.shares rising
noted_rises notices.Abort tid table rising = remove_rises tid_cmp (is_at (tid_cmp tid)) table.shares rising
noted_rises notices.Ending tid table rising = rising

notice_files : (notice : Notice) (tid : Tid) (server : ServerValue) (quota : ℕ) → server.kind ≡ Files quota → after_notice server tid notice ≡ record server { table = noted_in notice tid server.table }
notice_files notice tid server quota is = ap (λ (k : ServerKind). noted_by k notice tid server) is

module _ (servers : ServersValue) (f : HoldsFiles servers) (server : ServerNo) (tid : Tid) where
  -- files are files still
  pub notice_filed : (notice : Notice) → HoldsFiles (with_server server (λ value. after_notice value tid notice) servers)
  notice_filed notice = by (server.0 == numbers.files_no) refl
    where
      of : (files : ServerValue) → (with_server server (λ value. after_notice value tid notice) servers).files ≡ files → files.kind ≡ Files f.quota → IsRising tid_cmp files.table.shares → HoldsFiles (with_server server (λ value. after_notice value tid notice) servers)
      of files is kind rising = record { quota = f.quota; kind = ap (λ (s : ServerValue). s.kind) is ∙ kind; rising = subst (λ (s : ServerValue). IsRising tid_cmp s.table.shares) (sym is) rising }

      by : (b : Bool) → (server.0 == numbers.files_no) ≡ b → HoldsFiles (with_server server (λ value. after_notice value tid notice) servers)
      by true is = of (record servers.files { table = noted_in notice tid servers.files.table }) (files_here server (λ value. after_notice value tid notice) servers is ∙ notice_files notice tid servers.files f.quota f.kind)
          f.kind (noted_rises notice tid servers.files.table f.rising)
      by false is = of servers.files (files_elsewhere server (λ value. after_notice value tid notice) servers is) f.kind f.rising

  -- files that learnt the outcome have nothing pending
  pub learnt_pending : (outcome : Outcome) → (server.0 == numbers.files_no) ≡ true → length (changes_in (with_server server (λ value. after_notice value tid (notice_of outcome)) servers).files tid) ≡ 0
  learnt_pending outcome is =
      ap (λ (s : ServerValue). length (changes_in s tid)) (files_here server (λ value. after_notice value tid (notice_of outcome)) servers is ∙ notice_files (notice_of outcome) tid servers.files f.quota f.kind)
      ∙ ap (λ (s : Share). length s.changes) (none outcome)
    where
      none : (o : Outcome) → share_of (noted_in (notice_of o) tid servers.files.table) tid ≡ nothing_held
      none outcomes.Commit = gone (applied servers.files.table (share_of servers.files.table tid).changes) tid f.rising
      none outcomes.Abort = gone servers.files.table tid f.rising

  -- and where another server learns, as many as before
  pub elsewhere_pending : (u : ServerValue → ServerValue) → (server.0 == numbers.files_no) ≡ false → length (changes_in (with_server server u servers).files tid) ≡ length (changes_in servers.files tid)
  elsewhere_pending u is = ap (λ (s : ServerValue). length (changes_in s tid)) (files_elsewhere server u servers is)

  -- ---- a vote

  pub vote_files : (ballot : Vote) → after_vote servers.files tid ballot ≡ record servers.files { table = voted_in servers.files.table tid ballot }
  vote_files ballot = ap (λ (k : ServerKind). voted_by k tid ballot servers.files) f.kind

  voted_rises : (ballot : Vote) → IsRising tid_cmp (voted_in servers.files.table tid ballot).shares
  voted_rises votes.ReadOnly = remove_rises tid_cmp (is_at (tid_cmp tid)) servers.files.table.shares f.rising
  voted_rises votes.Volatile = put_rises tid_cmp tid_total tid (record (share_of servers.files.table tid) { voted = true }) servers.files.table.shares f.rising
  voted_rises votes.Recoverable = f.rising
  voted_rises (votes.Abort reason) = put_rises tid_cmp tid_total tid (record (share_of servers.files.table tid) { voted = false }) servers.files.table.shares f.rising

  pub vote_filed : (ballot : Vote) → HoldsFiles (with_server server (λ value. after_vote value tid ballot) servers)
  vote_filed ballot = by (server.0 == numbers.files_no) refl
    where
      of : (files : ServerValue) → (with_server server (λ value. after_vote value tid ballot) servers).files ≡ files → files.kind ≡ Files f.quota → IsRising tid_cmp files.table.shares → HoldsFiles (with_server server (λ value. after_vote value tid ballot) servers)
      of files is kind rising = record { quota = f.quota; kind = ap (λ (s : ServerValue). s.kind) is ∙ kind; rising = subst (λ (s : ServerValue). IsRising tid_cmp s.table.shares) (sym is) rising }

      by : (b : Bool) → (server.0 == numbers.files_no) ≡ b → HoldsFiles (with_server server (λ value. after_vote value tid ballot) servers)
      by true is = of (record servers.files { table = voted_in servers.files.table tid ballot }) (files_here server (λ value. after_vote value tid ballot) servers is ∙ vote_files ballot) f.kind (voted_rises ballot)
      by false is = of servers.files (files_elsewhere server (λ value. after_vote value tid ballot) servers is) f.kind f.rising
