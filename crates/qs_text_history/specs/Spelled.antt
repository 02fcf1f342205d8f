-- Which entries have a line: their numbers fit their types, their names and texts are words, and their members have names.
use Rattle.std.specs.Prelude.{ℕ, ◌≡◌, ◌<◌, ◌≤◌, ◌^◌, ◌⊎◌, true, List, Option, Some, None, [], ◌∷◌, ⊤}
use Rattle.std.specs.List.{list_all}
use Rattle.qs_base.specs.declared.identifiers.Member.{Member}
use Rattle.qs_base.specs.declared.identifiers.Outcome.{Outcome}
use Rattle.qs_base.specs.declared.identifiers.Outcome.TheVariants as outcomes
use Rattle.qs_base.specs.declared.identifiers.Tid.{Tid}
use Rattle.qs_book_journal.specs.declared.entry.Act.{Act}
use Rattle.qs_book_journal.specs.declared.entry.Act.TheVariants as acts
use Rattle.qs_book_journal.specs.declared.entry.CrashCause.{CrashCause}
use Rattle.qs_book_journal.specs.declared.entry.CrashCause.TheVariants as crashes
use Rattle.qs_book_journal.specs.declared.entry.Entry.{Entry}
use Rattle.qs_book_journal.specs.declared.entry.Found.{Found}
use Rattle.qs_ops.specs.Operations.{answer_of}
use Rattle.qs_ops.specs.declared.answer.Answer.{Answer}
use Rattle.qs_ops.specs.declared.answer.Answer.TheVariants as answers
use Rattle.qs_ops.specs.declared.answer.Cause.{Cause}
use Rattle.qs_ops.specs.declared.answer.Cause.TheVariants as causes
use Rattle.qs_ops.specs.declared.operation.Op.{Op}
use Rattle.qs_ops.specs.declared.operation.Op.TheVariants.{Put, Append, Del, Get, Listing, Note, Notes, Bind, Find, Timer, Left, Window, Title, Keep, Fetch, Lend, Extra}
use Rattle.qs_ops.specs.declared.vote.Reason.{Reason}
use Rattle.qs_ops.specs.declared.vote.Reason.TheVariants as reasons
use Rattle.qs_ops.specs.declared.vote.Vote.{Vote}
use Rattle.qs_ops.specs.declared.vote.Vote.TheVariants as votes
use Rattle.qs_text_history.specs.Words.{is_word}

-- a word: a byte at least, and each byte a character but the blank, up to the tilde
abbrev pub IsWord : List ℕ → Type 0
IsWord word = is_word word ≡ true

-- each item of a list has P
abbrev pub Each : {A : Type 0} → (A → Type 0) → List A → Type 0
Each P [] = ⊤
Each P (x ∷ xs) = P x × Each P xs

pub record IsTid (tid : Tid) : Type 0 where
  pub home : tid.home.0 < 256
  pub inc : tid.inc < 2 ^ 64
  pub seq : tid.seq < 2 ^ 32

-- one of the seven servers that have a name, or a client as borrower
abbrev pub IsPart : ℕ → Type 0
IsPart server = (server < 7) ⊎ ((32 ≤ server) × (server < 256))

pub record IsMember (member : Member) : Type 0 where
  pub part : IsPart member.server.0
  pub node : member.node.0 < 256

-- the member is one of the seven servers
pub record IsVoter (member : Member) : Type 0 where
  pub server : member.server.0 < 7
  pub node : member.node.0 < 256

abbrev pub IsOp : Op → Type 0
IsOp (Put name text) = IsWord name × IsWord text
IsOp (Append name text) = IsWord name × IsWord text
IsOp (Del name) = IsWord name
IsOp (Get name) = IsWord name
IsOp Listing = ⊤
IsOp (Note text) = IsWord text
IsOp Notes = ⊤
IsOp (Bind name text) = IsWord name × IsWord text
IsOp (Find name) = IsWord name
IsOp (Timer name ticks) = IsWord name × (ticks < 2 ^ 32)
IsOp (Left name) = IsWord name
IsOp (Window name text) = IsWord name × IsWord text
IsOp (Title name) = IsWord name
IsOp (Keep name text) = IsWord name × IsWord text
IsOp (Fetch name) = IsWord name
IsOp (Lend client) = client.0 < 256
IsOp (Extra code text) = (code < 2 ^ 32) × IsWord text

abbrev pub IsReason : Reason → Type 0
IsReason (reasons.Quota bytes limit) = (bytes < 2 ^ 64) × (limit < 2 ^ 64)
IsReason (reasons.LogRoom need room) = (need < 2 ^ 64) × (room < 2 ^ 64)
IsReason (reasons.Taken name) = IsWord name
IsReason (reasons.Code code) = code < 2 ^ 32

abbrev pub IsCause : Cause → Type 0
IsCause causes.Asked = ⊤
IsCause (causes.Voted member reason) = IsVoter member × IsReason reason
IsCause (causes.Gone node inc) = (node.0 < 256) × (inc < 2 ^ 64)
IsCause (causes.Home inc) = inc < 2 ^ 64
IsCause (causes.Room need room) = (need < 2 ^ 64) × (room < 2 ^ 64)
IsCause (causes.Old age) = age < 2 ^ 64

abbrev pub IsVote : Vote → Type 0
IsVote (votes.Abort reason) = IsReason reason
IsVote _ = ⊤

abbrev pub IsCrash : CrashCause → Type 0
IsCrash crashes.Plan = ⊤
IsCrash (crashes.Disk from to) = (from < 2 ^ 64) × (to < 2 ^ 64)
IsCrash (crashes.Last value) = value < 2 ^ 64
IsCrash crashes.Memory = ⊤

abbrev pub IsAnswer : Answer → Type 0
IsAnswer (answers.Value text) = IsWord text
IsAnswer (answers.Left ticks) = ticks < 2 ^ 32
IsAnswer (answers.Names list) = list_all is_word list ≡ true
IsAnswer (answers.Notes list) = list_all is_word list ≡ true
IsAnswer (answers.Busy holder) = IsTid holder
IsAnswer (answers.Aborted cause) = IsCause cause
IsAnswer (answers.LogFull need room) = (need < 2 ^ 64) × (room < 2 ^ 64)
IsAnswer _ = ⊤

pub record IsFound (found : Found) : Type 0 where
  pub tid : IsTid found.tid
  pub server : found.server.0 < 256
  pub covers : found.covers < 2 ^ 32

-- a cause stands exactly on abort
abbrev pub IsDecision : Outcome → Option Cause → Type 0
IsDecision outcomes.Commit None = ⊤
IsDecision outcomes.Commit (Some cause) = ⊥
IsDecision outcomes.Abort None = ⊥
IsDecision outcomes.Abort (Some cause) = IsCause cause

abbrev pub IsAct : Act → Type 0
IsAct (acts.Begin tid label client) = IsTid tid × (IsWord label × (client.0 < 256))
IsAct (acts.Issue tid issuer member number op) = IsTid tid × (IsMember issuer × (IsMember member × ((number < 2 ^ 32) × IsOp op)))
IsAct (acts.Serve tid member from number reply) = IsTid tid × (IsMember member × ((from.0 < 256) × ((number < 2 ^ 32) × IsAnswer (answer_of reply))))
IsAct (acts.Ask tid) = IsTid tid
IsAct (acts.Vote tid member vote covers) = IsTid tid × (IsMember member × (IsVote vote × (covers < 2 ^ 32)))
IsAct (acts.Counted tid peer up_to) = IsTid tid × ((peer.0 < 256) × (up_to < 2 ^ 32))
IsAct (acts.Decide tid outcome cause) = IsTid tid × IsDecision outcome cause
IsAct (acts.Ending tid member) = IsTid tid × IsMember member
IsAct (acts.Learn tid member outcome) = IsTid tid × IsMember member
IsAct (acts.Answer client line answer) = (client.0 < 256) × ((line < 2 ^ 32) × IsAnswer answer)
IsAct (acts.Loan tid client) = IsTid tid × (client.0 < 256)
IsAct (acts.Yield tid client) = IsTid tid × (client.0 < 256)
IsAct acts.Tick = ⊤
IsAct (acts.Crash cause) = IsCrash cause
IsAct (acts.Restart inc pend done) = (inc < 2 ^ 64) × (Each IsFound pend × Each IsTid done)

pub record IsEntry (entry : Entry) : Type 0 where
  pub stamp : entry.stamp < 2 ^ 64
  pub node : entry.node.0 < 256
  pub act : IsAct entry.act
