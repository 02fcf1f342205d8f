-- Short runs of one node: what comes to it, and what it brings about, event after event.
use Rattle.std.specs.Prelude.{◌≡◌, ℕ, true, List, [], ◌∷◌, codes, Some, None}
use Rattle.std.specs.Global.{Global}
use Rattle.qs_base.specs.declared.identifiers.ClientNo.{ClientNo}
use Rattle.qs_base.specs.declared.identifiers.Member.{Member}
use Rattle.qs_base.specs.declared.identifiers.NodeNo.{NodeNo}
use Rattle.qs_base.specs.declared.identifiers.Outcome.TheVariants as outcomes
use Rattle.qs_base.specs.declared.identifiers.ServerNo.{ServerNo}
use Rattle.qs_base.specs.declared.identifiers.Tid.{Tid}
use Rattle.qs_ops.specs.Servers as servers
use Rattle.qs_ops.specs.declared.answer.Answer.TheVariants as answers
use Rattle.qs_ops.specs.declared.answer.Cause.TheVariants as causes
use Rattle.qs_ops.specs.declared.operation.Op.{Op}
use Rattle.qs_ops.specs.declared.operation.Op.TheVariants.{Put, Get}
use Rattle.qs_ops.specs.declared.reply.Reply.TheVariants as replies
use Rattle.qs_ops.specs.declared.vote.Vote.TheVariants as votes
use Rattle.qs_book_journal.specs.declared.entry.Act.TheVariants as acts
use Rattle.qs_book_journal.specs.declared.script_line.Command.TheVariants as commands
use Rattle.qs_packet.specs.declared.message.Message.{Message}
use Rattle.qs_packet.specs.declared.message.Message.TheVariants as messages
use Rattle.qs_record.specs.declared.record.Record.{Record}
use Rattle.qs_record.specs.declared.record.Record.TheVariants as records
use Rattle.qs_node_step.specs.declared.event.Effects.{Effects}
use Rattle.qs_node_step.specs.declared.event.Event.{Event}
use Rattle.qs_node_step.specs.declared.event.Event.TheVariants as events
use Rattle.qs_node_step.specs.declared.event.Sending.{Sending}
use Rattle.qs_node_step.specs.declared.setting.Setting.{Setting}
use Rattle.qs_node_kept.specs.Keeping.{no_kept}
use Rattle.qs_node_step.specs.Opening.{recovered_of, opened_node}
use Rattle.qs_node_step.specs.State.{NodeValue, no_effects}
use Rattle.qs_node_step.specs.Step.{after_step, effects_of}

-- ---- what they are made of

-- bytes free in the log of a fresh disk
abbrev pub fresh_room : ℕ
fresh_room = 8384511

abbrev pub setting_of : ℕ → ℕ → Setting
setting_of nodes n = record { node = record { 0 = n }; inc = 1; nodes = nodes; quota = 1048576; audit = None; extra = 0; keep = 128; age = None }

abbrev pub brought : NodeValue → List Event → List Effects
brought node [] = []
brought node (event ∷ more) = effects_of node event fresh_room ∷ brought (after_step node event fresh_room) more

-- a node of three, with that log
abbrev pub one_of_three : Global → ℕ → List Record → NodeValue
one_of_three alloc n log = opened_node alloc (setting_of 3 n) (recovered_of log) no_kept

abbrev pub node : ℕ → NodeNo
node n = record { 0 = n }

abbrev pub files : ServerNo
files = record { 0 = servers.files_no }

abbrev pub member : ℕ → ServerNo → Member
member n server = record { node = node n; server = server }

abbrev pub client : ClientNo
client = record { 0 = 0 }

abbrev pub issuer : ServerNo
issuer = record { 0 = servers.client_no 0 }

-- the first transaction of node 0
abbrev pub tid : Tid
tid = record { home = node 0; inc = 1; seq = 1 }

abbrev pub put_hello : Op
put_hello = Put (codes "f") (codes "hello")

abbrev pub request_of : ℕ → Op → Message
request_of number op = messages.Request tid (codes "a") (member 1 files) number issuer op

abbrev pub to : ℕ → Message → Sending
to n message = record { to = node n; message = message }

-- ---- a node is drawn in by two others, votes, and is told the commit

abbrev pub member_events : List Event
member_events =
    events.Received (node 0) (request_of 1 put_hello)
    ∷ events.ServeAll
    ∷ events.Received (node 2) (request_of 1 (Get (codes "f")))
    ∷ events.Received (node 2) (messages.AskVote tid)
    ∷ events.Received (node 0) (messages.AskVote tid)
    ∷ events.ServeAll
    ∷ events.Tick
    ∷ events.Tick
    ∷ events.Received (node 0) (messages.Tell tid outcomes.Commit) ∷ []

-- the first who asks is the superior: nothing is answered at once
abbrev pub member_effects : List Effects
member_effects =
    no_effects
    ∷ record no_effects {
      messages = to 0 (messages.Answered tid (member 1 files) 1 replies.Done) ∷ [];
      entries = acts.Serve tid (member 1 files) (node 0) 1 replies.Done ∷ [];
    }
    ∷ record no_effects { messages = to 2 (messages.Covered tid 1) ∷ [] }
    ∷ no_effects
    ∷ no_effects
    ∷ record no_effects {
      messages = to 2 (messages.Answered tid (member 1 files) 1 (replies.Value (codes "hello"))) ∷ [];
      entries = acts.Serve tid (member 1 files) (node 2) 1 (replies.Value (codes "hello")) ∷ [];
    }
    ∷ record no_effects {
      records = records.Prepare tid files 2 (put_hello ∷ []) ∷ [];
      force = true;
      entries = acts.Tick ∷ acts.Vote tid (member 1 files) votes.Recoverable 2 ∷ [];
    }
    ∷ record no_effects { messages = to 0 (messages.VotedYes tid 1 (node 1 ∷ [])) ∷ []; entries = acts.Tick ∷ [] }
    ∷ record no_effects {
      records = records.Commit tid [] ∷ [];
      force = true;
      messages = to 0 (messages.Told tid []) ∷ [];
      entries = acts.Learn tid (member 1 files) outcomes.Commit ∷ [];
    }
    ∷ []

-- ---- a node restarts with a Prepare in doubt: it inquires, also where the home restarts, and is told an abort

abbrev pub doubt_events : List Event
doubt_events =
    events.Tick ∷ events.PeerRestarted (node 0) 1 2 ∷ events.PeerRestarted (node 2) 1 2
    ∷ events.Received (node 0) (messages.Tell tid outcomes.Abort) ∷ events.Received (node 0) (messages.Tell tid outcomes.Abort) ∷ []

abbrev pub doubt_effects : List Effects
doubt_effects =
    record no_effects { messages = to 0 (messages.Inquire tid) ∷ []; entries = acts.Tick ∷ [] }
    ∷ record no_effects { messages = to 0 (messages.Inquire tid) ∷ [] }
    ∷ no_effects
    ∷ record no_effects {
      records = records.Aborted tid ∷ [];
      messages = to 0 (messages.Told tid []) ∷ [];
      entries = acts.Learn tid (member 1 files) outcomes.Abort ∷ [];
    }
    ∷ record no_effects { messages = to 0 (messages.Told tid []) ∷ [] }
    ∷ []

-- ---- a home is asked for a transaction that runs, tells whoever asked, and whom these name

abbrev pub home_events : List Event
home_events =
    events.Command client 1 (codes "a") commands.Begin
    ∷ events.Received (node 1) (messages.Inquire tid)
    ∷ events.Command client 2 (codes "a") commands.Abort
    ∷ events.Received (node 1) (messages.Told tid (node 0 ∷ node 2 ∷ []))
    ∷ events.Received (node 2) (messages.Inquire (record { home = node 0; inc = 1; seq = 9 })) ∷ []

abbrev pub home_effects : List Effects
home_effects =
    record no_effects {
      answers = record { client = client; answer = record { line = 1; answer = answers.Done } } ∷ [];
      entries = acts.Begin tid (codes "a") client ∷ acts.Answer client 1 answers.Done ∷ [];
    }
    ∷ no_effects
    ∷ record no_effects {
      messages = to 1 (messages.Tell tid outcomes.Abort) ∷ [];
      answers = record { client = client; answer = record { line = 2; answer = answers.Aborted causes.Asked } } ∷ [];
      entries = acts.Decide tid outcomes.Abort (Some causes.Asked) ∷ acts.Answer client 2 (answers.Aborted causes.Asked) ∷ [];
    }
    ∷ record no_effects { messages = to 2 (messages.Tell tid outcomes.Abort) ∷ [] }
    ∷ record no_effects { messages = to 2 (messages.Tell (record { home = node 0; inc = 1; seq = 9 }) outcomes.Abort) ∷ [] }
    ∷ []

-- ---- the rows

pub record Rows (alloc : Global) : Type 0 where
  pub drawn_in : brought (one_of_three alloc 1 []) member_events ≡ member_effects
  pub in_doubt : brought (one_of_three alloc 1 (records.Prepare tid files 1 (put_hello ∷ []) ∷ [])) doubt_events ≡ doubt_effects
  pub home : brought (one_of_three alloc 0 []) home_events ≡ home_effects
