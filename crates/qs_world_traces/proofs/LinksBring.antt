-- What goes out of a link was put to it.
use Rattle.std.proofs.Common.{List, [], ◌∷◌, refl, subst, inl, inr}
use Rattle.qs_session_channels.specs.Network.{Among}
use Rattle.qs_link.specs.OnlyPut.{Each}
use Rattle.qs_link.specs.Planned.{goes_out}
use Rattle.qs_link.specs.declared.outgoing.LinkFault.{LinkFault}
use Rattle.qs_link.proofs.OnlyPut.{out_each}
use Rattle.qs_world_merge.specs.StepMoves.{seen}
use Rattle.qs_world_merge.proofs.Members.{among_front, among_map, map_among}
use Rattle.qs_packet.specs.declared.packet.Packet.{Packet}
use Rattle.qs_world_traces.specs.Links.{EachLinkBrings, put_to, took_from}

each_among : {T : Type 0} (P : T → Type 0) (xs : List T) (x : T) → Each P xs → Among xs x → P x
each_among P [] x all h = absurd h
each_among P (y ∷ ys) x all (inl is) = subst P is all.0
each_among P (y ∷ ys) x all (inr h) = each_among P ys x all.1 h

each_more : {T : Type 0} (P Q : T → Type 0) (xs : List T) → ((x : T) → P x → Q x) → Each P xs → Each Q xs
each_more P Q [] f all = tt
each_more P Q (x ∷ xs) f all = (f x all.0, each_more P Q xs f all.1)

all_among : {T : Type 0} (xs : List T) → Each (Among xs) xs
all_among [] = tt
all_among (x ∷ xs) = (inl refl, each_more (Among xs) (Among (x ∷ xs)) xs (λ y h. inr h) (all_among xs))

only_put : {T : Type 0} (plan : List LinkFault) (xs : List T) (x : T) → Among (goes_out plan [] xs) x → Among xs x
only_put plan xs x h = each_among (Among xs) (goes_out plan [] xs) x (out_each (Among xs) plan [] xs tt (all_among xs)) h

pub each_link_brings : EachLinkBrings
each_link_brings size plans journals traces fronts n m p in_run also other took =
    let front = fronts n m in_run also other in
    let found = among_map seen (took_from m (traces n)) p took in
    let out = subst (λ (l : List Packet). Among l found.0) front.is (among_front (took_from m (traces n)) front.rest found.0 found.1) in
    map_among seen (put_to n (traces m)) found.0 p (only_put (plans m n) (put_to n (traces m)) found.0 out) found.2
