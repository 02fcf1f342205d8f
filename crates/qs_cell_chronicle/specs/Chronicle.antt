-- What a cell tells: its journal, its trace, and its counts, and what each event, crash and restart adds.
use Rattle.std.specs.Prelude.{ℕ, ◌≤◌, ◌<◌, ◌+◌, ◌-◌, ◌^◌, Bool, List, [], ◌∷◌, ◌++◌, map, Option, Some, None, nat_le, min, max, if◌then◌else◌}
use Rattle.std.specs.List.{All}
use Rattle.qs_base.specs.declared.identifiers.NodeNo.{NodeNo}
use Rattle.qs_book_journal.specs.declared.entry.Act.{Act}
use Rattle.qs_book_journal.specs.declared.entry.Act.TheVariants as acts
use Rattle.qs_book_journal.specs.declared.entry.CrashCause.{CrashCause}
use Rattle.qs_book_journal.specs.declared.entry.Entry.{Entry}
use Rattle.qs_packet.specs.Grammar.{IsPacket}
use Rattle.qs_packet.specs.declared.packet.Packet.{Packet}
use Rattle.qs_node_step.specs.declared.trace.Did.{Did}
use Rattle.qs_node_step.specs.declared.trace.Step.{Step}

pub record Told : Type 0 where
  pub node : NodeNo
  pub stamp : ℕ  -- of the last step
  pub acts : ℕ  -- acts in bursts so far
  pub rounds : ℕ  -- visits and restarts so far
  pub events : ℕ  -- events so far, also those that a crash stands in place of
  pub journal : List Entry
  pub trace : List Step

-- one more, unless the count stands at its type's last value
abbrev pub counted : ℕ → ℕ
counted count = min (count + 1) (2 ^ 64 - 1)

-- what holds of each: all that its steps put has a spelling
pub record IsInOrder (stamp : ℕ) (trace : List Step) : Type 0 where
  pub low : stamp < 2 ^ 62
  pub spelled : All (λ (step : Step). All IsPacket step.put) trace

-- what is told, and the room for more entries and steps
pub record ChronicleValue : Type 0 where
  pub told : Told
  pub entries : ℕ
  pub steps : ℕ

-- room for so many entries and steps
pub record HasRoom (entries steps : ℕ) (chronicle : ChronicleValue) : Type 0 where
  pub for_entries : entries ≤ chronicle.entries
  pub for_steps : steps ≤ chronicle.steps

abbrev pub new_told : NodeNo → Told
new_told node = record { node = node; stamp = 0; acts = 0; rounds = 0; events = 0; journal = []; trace = [] }

-- no stamp is greater
abbrev pub last_stamp : ℕ
last_stamp = 2 ^ 62 - 1

abbrev pub is_last : Told → Bool
is_last told = nat_le last_stamp told.stamp

-- a step's stamp is one more than that of the step before; the last one stays
abbrev pub stamped : Told → Told
stamped told = if is_last told then told else record told { stamp = told.stamp + 1 }

-- that of a step that brings a packet is greater than the packet's as well; where the greater one of the two is the last, the node's own stays
abbrev pub is_last_past : ℕ → Told → Bool
is_last_past other told = nat_le last_stamp (max told.stamp other)

abbrev pub stamped_past : ℕ → Told → Told
stamped_past other told = if is_last_past other told then told else record told { stamp = max told.stamp other + 1 }

-- an event takes its number
abbrev pub numbered : Told → Told
numbered told = record told { events = counted told.events }

-- one more visit or restart
abbrev pub in_round : Told → Told
in_round told = record told { rounds = counted told.rounds }

-- one more act in a burst
abbrev pub in_act : Told → Told
in_act told = record told { acts = counted told.acts }

-- ---- entries and steps

abbrev pub entry_of : NodeNo → ℕ → Act → Entry
entry_of node stamp act = record { stamp = stamp; node = node; act = act }

-- one more entry, with the node and the stamp that stands
abbrev pub with_entry : Told → Act → Told
with_entry told act = record told { journal = told.journal ++ entry_of told.node told.stamp act ∷ [] }

abbrev pub step_of : Told → Did → List Packet → Option CrashCause → Step
step_of told did put crash = record {
  stamp = told.stamp;
  node = told.node;
  acts = told.acts;
  rounds = told.rounds;
  did = did;
  put = put;
  crash = crash;
}

-- a step with the stamp that stands, the packets that it puts to the links, and these entries
abbrev pub stepped : Did → List Packet → List Entry → Option CrashCause → Told → Told
stepped did put entries crash told = record told { journal = told.journal ++ entries; trace = told.trace ++ step_of told did put crash ∷ [] }

-- the same with the entries of these acts
abbrev pub noted : Did → List Packet → List Act → Option CrashCause → Told → Told
noted did put acts crash told = stepped did put (map (entry_of told.node told.stamp) acts) crash told

-- the node stops in a step: no other entry of it is made, and nothing is put
abbrev pub crashed : Did → CrashCause → Told → Told
crashed did cause told = noted did [] (acts.Crash cause ∷ []) (Some cause) told
