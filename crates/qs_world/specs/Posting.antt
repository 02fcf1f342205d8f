-- What a step posts, takes and answers in the world.
use Rattle.std.specs.Prelude.{ℕ, ◌==◌, Bool, true, false, List, drop, fold, length, map, Option, None, slice_get, if◌then◌else◌}
use Rattle.std.specs.List.{list_any}
use Rattle.qs_session_channels.specs.Channels as channel
use Rattle.qs_session_channels.specs.Channels.{Channels, Wait, Post, moved}
use Rattle.qs_session_channels.specs.Network.{with_at}
use Rattle.qs_book_journal.specs.declared.entry.Act.{Act}
use Rattle.qs_book_journal.specs.declared.entry.Entry.{Entry}
use Rattle.qs_book_journal.specs.declared.script_line.ScriptLine.{ScriptLine}
use Rattle.qs_node_step.specs.declared.event.ClientAnswer.{ClientAnswer}
use Rattle.qs_node_step.specs.declared.event.Sending.{Sending}
use Rattle.qs_world.specs.World.{Parcel, Client, World, inc_of, known_of}

-- ---- messages

-- what a node sends goes to the incarnation that it knows, or waits where it knows none
abbrev pub post_move : ℕ → ℕ → Channels Parcel → Sending → channel.Move Parcel
post_move n stamp channels sending =
    if channels.peer n sending.to.0 == 0
    then Wait n sending.to.0 (record { stamp = stamp; message = sending.message })
    else Post n sending.to.0 (record { stamp = stamp; message = sending.message })

abbrev pub post_next : ℕ → ℕ → Channels Parcel → Sending → Channels Parcel
post_next n stamp channels sending = moved (post_move n stamp channels sending) channels

abbrev pub post_all : ℕ → ℕ → List Sending → Channels Parcel → Channels Parcel
post_all n stamp sendings channels = fold (post_next n stamp) channels sendings

-- the next message that a node has for the present incarnation of another, from the incarnation that this one knows
abbrev pub next_parcel : World → ℕ → ℕ → Option Parcel
next_parcel world n m =
    slice_get (world.channels.posted m n (known_of world n m) (inc_of world n))
    (length (world.channels.handed m n (known_of world n m) (inc_of world n)))

-- ---- entries

abbrev pub entry_of : ℕ → ℕ → Act → Entry
entry_of n stamp act = record { stamp = stamp; node = record { 0 = n }; act = act }

abbrev pub entries_of : ℕ → ℕ → List Act → List Entry
entries_of n stamp acts = map (entry_of n stamp) acts

-- ---- clients

abbrev pub is_answer_to : ℕ → ClientAnswer → Bool
is_answer_to k said = said.client.0 == k

-- an answered client goes on to its next line
abbrev pub answered : Client → Client
answered client = record client { lines = drop 1 client.lines; is_handed = false }

abbrev pub clients_after : List ClientAnswer → (ℕ → Client) → ℕ → Client
clients_after answers clients k = if list_any (is_answer_to k) answers then answered (clients k) else clients k

-- the client's first line is in the node's hands
abbrev pub handed : ℕ → (ℕ → Client) → ℕ → Client
handed k clients = with_at clients k (record (clients k) { is_handed = true })

-- where a node stopped, the lines that it had in hand are handed to it again
abbrev pub handed_back : ℕ → (ℕ → Client) → ℕ → Client
handed_back n clients k = if (clients k).at == n then record (clients k) { is_handed = false } else clients k

-- the line that a client hands to its node next
abbrev pub next_line : Client → Option ScriptLine
next_line client = if client.is_handed then None else slice_get client.lines 0
