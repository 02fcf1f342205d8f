-- What stays of the lanes of a node: their rings in a visit, and what they are joined to when something is carried.
use Rattle.std.proofs.Common.{◌≡◌, ◌∙◌, ap, subst, sym, refl, Bool, true, false, List, [], ◌∷◌, ℕ, cond}
use Rattle.std.specs.Prelude.{Option, Some, None, Result, ◌==◌}
use Rattle.qs_base.specs.declared.identifiers.ClientNo.{ClientNo}
use Rattle.qs_base.specs.declared.memory.NoMemory.{NoMemory}
use Rattle.qs_book_journal.specs.declared.script_line.LineAnswer.{LineAnswer}
use Rattle.qs_book_journal.specs.declared.script_line.ScriptLine.{ScriptLine}
use Rattle.qs_cell_chronicle.specs.declared.carried.HeldCommand.{HeldCommand}
use Rattle.qs_link.specs.Lane.{FeedValue, DrawValue, IsLane}
use Rattle.qs_link.specs.Lanes.{is_of, ends_of, at_client, with_answer, without_line, with_commands, with_answers, SendsTo, SendsFrom, CarriesIn, CarriesOut}
use Rattle.qs_link.specs.declared.ends.NodeEnds.{NodeEnds}
use Rattle.rtrb.specs.Ring.{SameProducer, SameConsumer}
use Rattle.qs_node_step.specs.declared.event.ClientAnswer.{ClientAnswer}
use Rattle.qs_cell.specs.Joined.{HasSameRings, HaveSameRings, StayJoined}
use Rattle.qs_cell.specs.Visits.{left_by, left_of, held_by, deliver}
use Rattle.qs_cell.specs.declared.cell.EventSource.{EventSource}
use Rattle.qs_cell.specs.declared.cell.EventSource.TheVariants as sources
use Rattle.qs_cell.specs.declared.state.CellState.{CellState}
use Rattle.qs_cell.specs.declared.state.CellState.TheVariants as states

-- ---- the same rings

same_rings : (end : NodeEnds) → HasSameRings end end
same_rings end = record { client = refl; commands = refl; answers = refl }

rings_same : (ends : List NodeEnds) → HaveSameRings ends ends
rings_same [] = tt
rings_same (end ∷ ends) = (same_rings end, rings_same ends)

pub rings_none : (ends : List NodeEnds) → HaveSameRings ends ends
rings_none ends = rings_same ends

pub rings_as : (old new : List NodeEnds) → new ≡ old → HaveSameRings old new
rings_as old new is = subst (HaveSameRings old) (sym is) (rings_same old)

pub rings_on : (a b c : List NodeEnds) → HaveSameRings a b → HaveSameRings b c → HaveSameRings a c
rings_on [] [] [] first second = tt
rings_on (x ∷ xs) (y ∷ ys) (z ∷ zs) first second = (
  record {
    client = second.0.client ∙ first.0.client;
    commands = second.0.commands ∙ first.0.commands;
    answers = second.0.answers ∙ first.0.answers;
  },
  rings_on xs ys zs first.1 second.1,
)
rings_on [] [] (z ∷ zs) first second = absurd second
rings_on [] (y ∷ ys) c first second = absurd first
rings_on (x ∷ xs) [] c first second = absurd first
rings_on (x ∷ xs) (y ∷ ys) [] first second = absurd second

-- at the ends of one client
rings_at : (client : ClientNo) (f : NodeEnds → NodeEnds) → ((end : NodeEnds) → HasSameRings end (f end)) → (ends : List NodeEnds)
    → HaveSameRings ends (at_client client f ends)
rings_at client f keeps [] = tt
rings_at client f keeps (end ∷ ends) = by (is_of client end) refl (rings_at client f keeps ends)
  where
    by : (b : Bool) → is_of client end ≡ b → HaveSameRings ends (at_client client f ends) → HaveSameRings (end ∷ ends) (at_client client f (end ∷ ends))
    by true is rest = rw is (keeps end, rings_same ends)
    by false is rest = rw is (same_rings end, rest)

pub rings_delivered : (ends : List NodeEnds) (said : ClientAnswer) → HaveSameRings ends (deliver ends said)
rings_delivered ends said =
    rings_at said.client (with_answer said.answer) (λ end. record { client = refl; commands = refl; answers = refl }) ends

rings_left_of : (client : ClientNo) (held : Option HeldCommand) (ends : List NodeEnds) → HaveSameRings ends (left_of client held ends)
rings_left_of client None ends = rings_at client without_line (λ end. record { client = refl; commands = refl; answers = refl }) ends
rings_left_of client (Some held) ends = rings_same ends

pub rings_left : {D : Type 0} (source : EventSource) (node : CellState D) (ends : List NodeEnds) → HaveSameRings ends (left_by source node ends)
rings_left (sources.Client client) (states.Up running) ends = rings_left_of client (held_by client running.carried) ends
rings_left (sources.Client client) (states.Down stopped) ends = rings_same ends
rings_left sources.Queues node ends = rings_same ends
rings_left sources.Clock node ends = rings_same ends

-- ---- the same lanes

-- the ends of one client are of the same rings, whatever was pushed into them
record AreOfSame (old new : NodeEnds) : Type 0 where
  client : new.client ≡ old.client
  commands : SameConsumer old.commands.ring new.commands.ring
  answers : SameProducer old.answers.ring new.answers.ring

abbrev AllOfSame : List NodeEnds → List NodeEnds → Type 0
AllOfSame [] [] = Unit {0}
AllOfSame (old ∷ olds) (new ∷ news) = AreOfSame old new × AllOfSame olds news
AllOfSame _ _ = ⊥

of_same : (end : NodeEnds) → AreOfSame end end
of_same end = record { client = refl; commands = ((refl, refl, refl, refl), refl); answers = ((refl, refl, refl, refl), refl) }

all_of_same : (ends : List NodeEnds) → AllOfSame ends ends
all_of_same [] = tt
all_of_same (end ∷ ends) = (of_same end, all_of_same ends)

of_rings : (old new : NodeEnds) → HasSameRings old new → AreOfSame old new
of_rings old new same = record {
  client = same.client;
  commands = subst (λ r. SameConsumer old.commands.ring r) (sym same.commands) ((refl, refl, refl, refl), refl);
  answers = subst (λ r. SameProducer old.answers.ring r) (sym same.answers) ((refl, refl, refl, refl), refl);
}

all_of_rings : (olds news : List NodeEnds) → HaveSameRings olds news → AllOfSame olds news
all_of_rings [] [] same = tt
all_of_rings (old ∷ olds) (new ∷ news) same = (of_rings old new same.0, all_of_rings olds news same.1)
all_of_rings [] (new ∷ news) same = absurd same
all_of_rings (old ∷ olds) [] same = absurd same

-- what is joined to the ends of a client stays so
sends_to : (client : ClientNo) (feed : FeedValue ScriptLine) (olds news : List NodeEnds) → AllOfSame olds news → SendsTo feed (ends_of client olds)
    → SendsTo feed (ends_of client news)
sends_to client feed [] [] same sends = tt
sends_to client feed (old ∷ olds) (new ∷ news) same sends = by (is_of client old) refl (sends_to client feed olds news same.1)
  where
    as_new : is_of client new ≡ is_of client old
    as_new = ap (λ (c : ClientNo). c.0 == client.0) same.0.client

    by : (b : Bool) → is_of client old ≡ b → (SendsTo feed (ends_of client olds) → SendsTo feed (ends_of client news)) → SendsTo feed (ends_of client (new ∷ news))
    by true is rest =
        let here : IsLane feed old.commands = subst (λ (b : Bool). SendsTo feed (cond b (Some old) (ends_of client olds))) is sends in
        subst (λ (b : Bool). SendsTo feed (cond b (Some new) (ends_of client news))) (sym (as_new ∙ is))
        (same.0.commands.0.0 ∙ here.0, same.0.commands.0.1 ∙ here.1, same.0.commands.0.2 ∙ here.2, same.0.commands.0.3 ∙ here.3)
    by false is rest =
        subst (λ (b : Bool). SendsTo feed (cond b (Some new) (ends_of client news))) (sym (as_new ∙ is))
        (rest (subst (λ (b : Bool). SendsTo feed (cond b (Some old) (ends_of client olds))) is sends))
sends_to client feed [] (new ∷ news) same sends = absurd same
sends_to client feed (old ∷ olds) [] same sends = absurd same

sends_from : (client : ClientNo) (draw : DrawValue LineAnswer) (olds news : List NodeEnds) → AllOfSame olds news → SendsFrom (ends_of client olds) draw
    → SendsFrom (ends_of client news) draw
sends_from client draw [] [] same sends = tt
sends_from client draw (old ∷ olds) (new ∷ news) same sends = by (is_of client old) refl (sends_from client draw olds news same.1)
  where
    as_new : is_of client new ≡ is_of client old
    as_new = ap (λ (c : ClientNo). c.0 == client.0) same.0.client

    by : (b : Bool) → is_of client old ≡ b → (SendsFrom (ends_of client olds) draw → SendsFrom (ends_of client news) draw)
        → SendsFrom (ends_of client (new ∷ news)) draw
    by true is rest =
        let here : IsLane old.answers draw = subst (λ (b : Bool). SendsFrom (cond b (Some old) (ends_of client olds)) draw) is sends in
        subst (λ (b : Bool). SendsFrom (cond b (Some new) (ends_of client news)) draw) (sym (as_new ∙ is))
        (here.0 ∙ sym same.0.answers.0.0, here.1 ∙ sym same.0.answers.0.1, here.2 ∙ sym same.0.answers.0.2, here.3 ∙ sym same.0.answers.0.3)
    by false is rest =
        subst (λ (b : Bool). SendsFrom (cond b (Some new) (ends_of client news)) draw) (sym (as_new ∙ is))
        (rest (subst (λ (b : Bool). SendsFrom (cond b (Some old) (ends_of client olds)) draw) is sends))
sends_from client draw [] (new ∷ news) same sends = absurd same
sends_from client draw (old ∷ olds) [] same sends = absurd same

joined_of : (olds news : List NodeEnds) → AllOfSame olds news → StayJoined olds news
joined_of olds news same = record {
  commands = λ client feed sends. sends_to client feed olds news same sends;
  answers = λ client draw sends. sends_from client draw olds news same sends;
}

-- in a visit
pub joined_rings : (olds news : List NodeEnds) → HaveSameRings olds news → StayJoined olds news
joined_rings olds news same = joined_of olds news (all_of_rings olds news same)

-- ---- carrying

-- the ends that were found are those that change
at_found : (client : ClientNo) (f : NodeEnds → NodeEnds) (end : NodeEnds) (ends : List NodeEnds) → ends_of client ends ≡ Some end → AreOfSame end (f end)
    → AllOfSame ends (at_client client f ends)
at_found client f end [] found same = tt
at_found client f end (x ∷ xs) found same = by (is_of client x) refl (λ there. at_found client f end xs there same)
  where
    by : (b : Bool) → is_of client x ≡ b → (ends_of client xs ≡ Some end → AllOfSame xs (at_client client f xs)) → AllOfSame (x ∷ xs) (at_client client f (x ∷ xs))
    by true is rest =
        let here : Some x ≡ Some end = sym (ap (λ (b : Bool). cond b (Some x) (ends_of client xs)) is) ∙ found in
        let x_is : end ≡ x = cc in
        rw is (subst (λ (e : NodeEnds). AreOfSame e (f e)) x_is same, all_of_same xs)
    by false is rest = rw is (of_same x, rest (sym (ap (λ (b : Bool). cond b (Some x) (ends_of client xs)) is) ∙ found))

joined_in : (client : ClientNo) (from_old from_new : FeedValue ScriptLine) (old new : List NodeEnds) (held : Result ℕ NoMemory) (end : Option NodeEnds)
    → ends_of client old ≡ end → CarriesIn client from_old from_new old new held end → StayJoined old new
joined_in client from_old from_new old new held None found carries = joined_of old new (subst (AllOfSame old) (sym carries.0) (all_of_same old))
joined_in client from_old from_new old new held (Some end) found carries =
    joined_of old new (subst (AllOfSame old) (sym carries.1.0)
    (at_found client (with_commands carries.0) end old found (record { client = refl; commands = carries.1.1.draw; answers = (of_same end).answers })))

joined_out : (client : ClientNo) (to_old to_new : DrawValue LineAnswer) (old new : List NodeEnds) (held : Result ℕ NoMemory) (end : Option NodeEnds)
    → ends_of client old ≡ end → CarriesOut client to_old to_new old new held end → StayJoined old new
joined_out client to_old to_new old new held None found carries = joined_of old new (subst (AllOfSame old) (sym carries.0) (all_of_same old))
joined_out client to_old to_new old new held (Some end) found carries =
    joined_of old new (subst (AllOfSame old) (sym carries.1.0)
    (at_found client (with_answers carries.0) end old found (record { client = refl; commands = (of_same end).commands; answers = carries.1.1.feed })))

pub joined_carried_in : (client : ClientNo) (from_old from_new : FeedValue ScriptLine) (old new : List NodeEnds) (held : Result ℕ NoMemory)
    → CarriesIn client from_old from_new old new held (ends_of client old) → StayJoined old new
joined_carried_in client from_old from_new old new held carries = joined_in client from_old from_new old new held (ends_of client old) refl carries

pub joined_carried_out : (client : ClientNo) (to_old to_new : DrawValue LineAnswer) (old new : List NodeEnds) (held : Result ℕ NoMemory)
    → CarriesOut client to_old to_new old new held (ends_of client old) → StayJoined old new
joined_carried_out client to_old to_new old new held carries = joined_out client to_old to_new old new held (ends_of client old) refl carries
