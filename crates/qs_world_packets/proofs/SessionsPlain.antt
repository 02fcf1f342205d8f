-- An end of a session does the same with messages as with parcels, of which it looks at none.
use Rattle.std.proofs.Common.{◌≡◌, ℕ, ◌+◌, ◌-◌, ◌==◌, Bool, true, false, List, [], ◌∷◌, ◌++◌, length, take, drop, Option, Some, None, zero, suc, nat_lt, refl, ap, ◌∙◌, if◌then◌else◌}
use Rattle.std.specs.Prelude.{map, not, option_map}
use Rattle.qs_session_channels.specs.End as end
use Rattle.qs_session_channels.specs.End.{Answer, End, Packet, again, answer, idle_packets, left, packet, received, sent, sent_packet, tick_packets}
use Rattle.qs_packet.specs.declared.message.Message.{Message}
use Rattle.qs_packet.specs.declared.message.Message.TheVariants as messages
use Rattle.qs_world.specs.World.{Parcel}
use Rattle.qs_world_packets.specs.PacketSessions.{IsPlain, message_of, plain_answer, plain_end, plain_packet}
use Rattle.qs_world_packets.specs.PacketWorld.{hello}

-- ---- lists of messages

length_map : (xs : List Parcel) → length (map message_of xs) ≡ length xs
length_map [] = refl
length_map (x ∷ xs) = ap suc (length_map xs)

took_map : (k : ℕ) (xs : List Parcel) → length (take k (map message_of xs)) ≡ length (take k xs)
took_map zero xs = refl
took_map (suc k) [] = refl
took_map (suc k) (x ∷ xs) = ap suc (took_map k xs)

drop_map : (k : ℕ) (xs : List Parcel) → drop k (map message_of xs) ≡ map message_of (drop k xs)
drop_map zero xs = refl
drop_map (suc k) [] = refl
drop_map (suc k) (x ∷ xs) = drop_map k xs

push_map : (xs : List Parcel) (x : Parcel) → map message_of xs ++ message_of x ∷ [] ≡ map message_of (xs ++ x ∷ [])
push_map [] x = refl
push_map (y ∷ xs) x = ap (λ (zs : List Message). message_of y ∷ zs) (push_map xs x)

-- ---- answers

answers_plain : (e : End Parcel) (p : Packet Parcel) → answer (plain_end e) (plain_packet p) ≡ plain_answer (answer e p)
answers_plain e p = by (nat_lt p.inc e.known) (nat_lt e.known p.inc) (not (p.to_inc == e.mine)) (p.number == 0) (nat_lt p.number (e.taken + 1)) (nat_lt (e.taken + 1) p.number)
  where
    by : (a b c d f g : Bool)
        → (if a then end.OldPeer e.known p.inc else if b then end.NewPeer e.known p.inc else if c then end.OldSelf e.mine p.to_inc else if d then end.Hello else if f then end.Repeat p.number else if g then end.Early p.number (e.taken + 1) else end.Message (message_of p.message))
        ≡ plain_answer (if a then end.OldPeer e.known p.inc else if b then end.NewPeer e.known p.inc else if c then end.OldSelf e.mine p.to_inc else if d then end.Hello else if f then end.Repeat p.number else if g then end.Early p.number (e.taken + 1) else end.Message p.message)
    by true b c d f g = refl
    by false true c d f g = refl
    by false false true d f g = refl
    by false false false true f g = refl
    by false false false false true g = refl
    by false false false false false true = refl
    by false false false false false false = refl

-- ---- what a packet leaves

acknowledged_plain : (e : End Parcel) (ack : ℕ) (owed : Bool) (taken : ℕ) → end.acknowledged (plain_end e) ack owed taken ≡ plain_end (end.acknowledged e ack owed taken)
acknowledged_plain e ack owed taken =
    ap (λ (n : ℕ). with_parts n (drop (ack - e.acked) (map message_of e.kept))) (took_map (ack - e.acked) e.kept) ∙ ap (with_parts (length (take (ack - e.acked) e.kept))) (drop_map (ack - e.acked) e.kept)
  where
    with_parts : ℕ → List Message → End Message
    with_parts n kept = record { mine = e.mine; known = e.known; taken = taken; acked = e.acked + n; kept = kept; owed = owed; met = true }

left_plain : (a : Answer Parcel) (e : End Parcel) (p : Packet Parcel) → left (plain_answer a) (plain_end e) (plain_packet p) ≡ plain_end (left a e p)
left_plain (end.OldPeer known got) e p = refl
left_plain (end.NewPeer old new) e p = by (old == 0)
  where
    by : (b : Bool) → ◌≡◌ {A = End Message} (record (plain_end e) { known = new; taken = 0; acked = 0; kept = if b then map message_of e.kept else []; owed = true; met = p.to_inc == e.mine })
        (plain_end (record e { known = new; taken = 0; acked = 0; kept = if b then e.kept else []; owed = true; met = p.to_inc == e.mine }))
    by true = refl
    by false = refl
left_plain (end.OldSelf mine got) e p = refl
left_plain end.Hello e p = acknowledged_plain e p.ack e.owed e.taken
left_plain (end.Repeat number) e p = acknowledged_plain e p.ack true e.taken
left_plain (end.Early number expected) e p = acknowledged_plain e p.ack true e.taken
left_plain (end.Message x) e p = acknowledged_plain e p.ack true (e.taken + 1)

receives_plain : (e : End Parcel) (p : Packet Parcel) → received (plain_end e) (plain_packet p) ≡ plain_end (received e p)
receives_plain e p = ap (λ (a : Answer Message). left a (plain_end e) (plain_packet p)) (answers_plain e p) ∙ left_plain (answer e p) e p

-- ---- what is sent

sends_plain : (e : End Parcel) (x : Parcel) → sent (plain_end e) (message_of x) ≡ plain_end (sent e x)
sends_plain e x = by (e.known == 0)
  where
    by : (b : Bool) → (if b then record (plain_end e) { kept = map message_of e.kept ++ message_of x ∷ [] } else record (plain_end e) { kept = map message_of e.kept ++ message_of x ∷ []; owed = false })
        ≡ plain_end (if b then record e { kept = e.kept ++ x ∷ [] } else record e { kept = e.kept ++ x ∷ []; owed = false })
    by true = ap (λ (kept : List Message). record (plain_end e) { kept = kept }) (push_map e.kept x)
    by false = ap (λ (kept : List Message). record (plain_end e) { kept = kept; owed = false }) (push_map e.kept x)

packets_plain : (e : End Parcel) (x : Parcel) (stamp : ℕ) → sent_packet (plain_end e) (message_of x) stamp ≡ option_map plain_packet (sent_packet e x stamp)
packets_plain e x stamp = ap (λ (n : ℕ). if e.known == 0 then None else Some (packet (plain_end e) e.known (e.acked + n + 1) stamp (message_of x))) (length_map e.kept) ∙ by (e.known == 0)
  where
    by : (b : Bool) → ◌≡◌ {A = Option (Packet Message)} (if b then None else Some (packet (plain_end e) e.known (e.acked + length e.kept + 1) stamp (message_of x)))
        (option_map plain_packet (if b then None else Some (packet e e.known (e.acked + length e.kept + 1) stamp x)))
    by true = refl
    by false = refl

-- ---- what goes at a tick

again_plain : (e : End Parcel) (stamp k : ℕ) (xs : List Parcel) → again (plain_end e) stamp k (map message_of xs) ≡ map plain_packet (again e stamp k xs)
again_plain e stamp k [] = refl
again_plain e stamp k (x ∷ xs) = ap (λ (ps : List (Packet Message)). packet (plain_end e) e.known (k + 1) stamp (message_of x) ∷ ps) (again_plain e stamp (k + 1) xs)

idle_plain : (e : End Parcel) (stamp : ℕ) → idle_packets messages.Hello (plain_end e) stamp ≡ map plain_packet (idle_packets hello e stamp)
idle_plain e stamp = by e.owed e.met
  where
    by : (a b : Bool) → ◌≡◌ {A = List (Packet Message)} (if a then packet (plain_end e) e.known 0 stamp messages.Hello ∷ [] else if b then [] else packet (plain_end e) 0 0 stamp messages.Hello ∷ [])
        (map plain_packet (if a then packet e e.known 0 stamp hello ∷ [] else if b then [] else packet e 0 0 stamp hello ∷ []))
    by true b = refl
    by false true = refl
    by false false = refl

ticks_plain : (e : End Parcel) (stamp : ℕ) → tick_packets messages.Hello (plain_end e) stamp ≡ map plain_packet (tick_packets hello e stamp)
ticks_plain e stamp = ap (λ (n : ℕ). going (e.known == 0) (n == 0)) (length_map e.kept) ∙ by (e.known == 0) (length e.kept == 0)
  where
    going : Bool → Bool → List (Packet Message)
    going a b = if a then packet (plain_end e) 0 0 stamp messages.Hello ∷ [] else if b then idle_packets messages.Hello (plain_end e) stamp else again (plain_end e) stamp e.acked (map message_of e.kept)

    by : (a b : Bool) → ◌≡◌ {A = List (Packet Message)} (if a then packet (plain_end e) 0 0 stamp messages.Hello ∷ [] else if b then idle_packets messages.Hello (plain_end e) stamp else again (plain_end e) stamp e.acked (map message_of e.kept))
        (map plain_packet (if a then packet e 0 0 stamp hello ∷ [] else if b then idle_packets hello e stamp else again e stamp e.acked e.kept))
    by true b = refl
    by false true = idle_plain e stamp
    by false false = again_plain e stamp e.acked e.kept

pub is_plain : IsPlain
is_plain = record { opens = λ mine. refl; answers = answers_plain; receives = receives_plain; sends = sends_plain; packets = packets_plain; ticks = ticks_plain; rests = λ e. refl }
