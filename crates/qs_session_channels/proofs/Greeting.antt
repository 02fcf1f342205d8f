-- A tick that has something to say is not silent.
use Rattle.std.proofs.Common.{◌≡◌, ◌≢◌, Bool, ℕ, true, false, refl, arith, List, [], ◌∷◌, length}
use Rattle.std.proofs.lemmas.Bool.Decides.{nat_tests}
use Rattle.qs_session_channels.specs.End.{End, Packet, again, tick_packets}

again_some : {M : Type 0} → (e : End M) (stamp k : ℕ) (xs : List M) → again e stamp k xs ≡ [] → length xs ≡ 0
again_some e stamp k [] is = refl
again_some e stamp k (x ∷ xs) is = grind (arith, is)

pub unmet : {M : Type 0} → (hello : M) (e : End M) (stamp : ℕ) → e.met ≡ false → tick_packets hello e stamp ≢ []
unmet hello e stamp off is = grind (arith, nat_tests, off, is, again_some e stamp e.acked e.kept)

pub owed : {M : Type 0} → (hello : M) (e : End M) (stamp : ℕ) → e.owed ≡ true → tick_packets hello e stamp ≢ []
owed hello e stamp on is = grind (arith, nat_tests, on, is, again_some e stamp e.acked e.kept)
