-- What a cell has put goes on.
use Rattle.std.proofs.Common.{◌≡◌, ◌⊎◌, List, [], ◌∷◌, ◌++◌, sym, subst, inl, inr}
use Rattle.std.specs.Prelude.{map, reverse}
use Rattle.qs_session_channels.specs.End.{Packet}
use Rattle.qs_session_channels.specs.Network.{Among}
use Rattle.qs_session_channels.proofs.Grown.{among_append}
use Rattle.qs_world_merge.specs.Observed.{ArePut}
use Rattle.qs_world_merge.proofs.Members.{among_back, among_front}
use Rattle.qs_packet.specs.declared.message.Message.{Message}
use Rattle.qs_world_packets.specs.PacketSessions.{plain_packet}
use Rattle.qs_world.specs.World.{Parcel}
use Rattle.qs_world_traces.specs.Puts.{EachPutsOn, EachTicksOn}
use mathlib.Core.List.{reverse_aux}

there_turned : {A : Type 0} (xs ys : List A) (y : A) → Among xs y ⊎ Among ys y → Among (reverse_aux xs ys) y
there_turned [] ys y (inl h) = absurd h
there_turned [] ys y (inr h) = h
there_turned (x ∷ xs) ys y (inl (inl is)) = there_turned xs (x ∷ ys) y (inr (inl is))
there_turned (x ∷ xs) ys y (inl (inr h)) = there_turned xs (x ∷ ys) y (inl h)
there_turned (x ∷ xs) ys y (inr h) = there_turned xs (x ∷ ys) y (inr (inr h))

only_turned : {A : Type 0} (xs ys : List A) (y : A) → Among (reverse_aux xs ys) y → Among xs y ⊎ Among ys y
only_turned [] ys y h = inr h
only_turned {A} (x ∷ xs) ys y h = by (only_turned xs (x ∷ ys) y h)
  where
    by : Among xs y ⊎ Among (x ∷ ys) y → Among (x ∷ xs) y ⊎ Among ys y
    by (inl h) = inl (inr h)
    by (inr (inl is)) = inl (inl is)
    by (inr (inr h)) = inr h

only_none : {A : Type 0} (xs : List A) (y : A) → Among xs y ⊎ Among [] y → Among xs y
only_none xs y (inl h) = h
only_none xs y (inr none) = absurd none

-- members of two lists, one behind the other in either order
on_by : (put sent sent_there : List (Packet Message)) (old new : List (Packet Parcel)) → ((p : Packet Message) → Among sent p → Among sent_there p) → ((p : Packet Message) → Among sent_there p → Among sent p)
    → ArePut put old → map plain_packet new ≡ sent_there ++ map plain_packet old → ArePut (put ++ sent) new
on_by put sent sent_there old new goes comes was is = record {
  there = λ p h. subst (λ (l : List (Packet Message)). Among l p) (sym is) (to p (among_append put sent p h));
  only = λ p h. from p (among_append sent_there (map plain_packet old) p (subst (λ (l : List (Packet Message)). Among l p) is h));
}
  where
    to : (p : Packet Message) → Among put p ⊎ Among sent p → Among (sent_there ++ map plain_packet old) p
    to p (inl h) = among_back sent_there (map plain_packet old) p (was.there p h)
    to p (inr h) = among_front sent_there (map plain_packet old) p (goes p h)

    from : (p : Packet Message) → Among sent_there p ⊎ Among (map plain_packet old) p → Among (put ++ sent) p
    from p (inl h) = among_back put sent p (comes p h)
    from p (inr h) = among_front put sent p (was.only p h)

pub each_puts_on : EachPutsOn
each_puts_on put sent old new was is = on_by put sent (reverse sent) old new (λ p h. there_turned sent [] p (inl h)) (λ p h. only_none sent p (only_turned sent [] p h)) was is

pub each_ticks_on : EachTicksOn
each_ticks_on put sent old new was is = on_by put sent sent old new (λ p h. h) (λ p h. h) was is
