-- What is issued and voted in a step and finds what it needs, is issued and voted well.
use Rattle.qs_world_runs.proofs.Words.{◌≡◌, ◌⊎◌, inl, inr, ℕ, List, [], ◌∷◌, ClientNo, ServerNo, Tid, Command, BookValue, Op, settle_tid, Work, wait_on, vote_next, Outstanding, AtEach, Field, IssueFinds, PassFinds, WaitFinds, IssuesWell, PassesWell, WaitsWell}
use Rattle.qs_world_runs.specs.PlacesFound.{CommandFinds, VoteFinds}
use Rattle.qs_world_runs.specs.PlacesGo.{CommandsWell, VotesWell}

module _ (D : Type 0) (t : Tid) (base : Field) (knows : ℕ → ℕ) (n stamp : ℕ) (before : BookValue) where
  issue_well : (request : Outstanding) (op : Op) (work : Work) → D ⊎ IssueFinds base knows request op work → D ⊎ IssuesWell t base knows n stamp before request op work
  issue_well request op work (inl doomed) = inl doomed
  issue_well request op work (inr finds) = inr (record { fits = finds.fits; in_run = finds.in_run; reaches = finds.reaches })

  pub commands_well : (client : ClientNo) (label : List ℕ) (command : Command) (work : Work) → CommandFinds D t base knows client label command work → CommandsWell D t base knows n stamp before client label command work
  commands_well client label command work finds begun member op number found its obeyed asks next = issue_well _ op _ (finds begun member op number found its obeyed asks next)

  vote_well : (work : Work) (server : ServerNo) → VoteFinds D t base knows work server → VotesWell D t base knows n stamp before work server
  vote_well work server finds = record { notes = λ owes node number audit next. issue_well _ _ work (finds.notes owes node number audit next); votes = finds.votes }

  votes_well : (servers : List ServerNo) (work : Work) → AtEach (VoteFinds D t base knows) (vote_next t) work servers → AtEach (VotesWell D t base knows n stamp before) (vote_next t) work servers
  votes_well [] work finds = tt
  votes_well (server ∷ servers) work finds = (vote_well work server finds.0, votes_well servers (vote_next t work server) finds.1)

  pub pass_well : (work : Work) → PassFinds D t base knows work → PassesWell D t base knows n stamp before work
  pass_well work finds part known undecided due = votes_well _ _ (finds part known undecided due)

  pub passes_well : (tids : List Tid) (work : Work) → AtEach (λ (w : Work) (tid : Tid). tid ≡ t → PassFinds D t base knows w) settle_tid work tids → AtEach (λ (w : Work) (tid : Tid). tid ≡ t → PassesWell D t base knows n stamp before w) settle_tid work tids
  passes_well [] work finds = tt
  passes_well (tid ∷ tids) work finds = (λ same. pass_well work (finds.0 same), passes_well tids (settle_tid work tid) finds.1)

  pub waits_well : (clients : List ClientNo) (work : Work) → AtEach (WaitFinds D t base knows) wait_on work clients → AtEach (WaitsWell D t base knows n stamp before) wait_on work clients
  waits_well [] work finds = tt
  waits_well (client ∷ clients) work finds = (λ command found goes. commands_well client command.line.label command.line.command work (finds.0 command found goes), waits_well clients (wait_on work client) finds.1)
