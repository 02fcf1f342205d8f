-- Amid a visit of one node: what each node took was put, as it was before the visit and is behind it, since a trace only gets longer.
use Rattle.std.proofs.Common.{◌≡◌, ◌≢◌, ◌∙◌, ap, refl, subst, sym, ℕ, ◌==◌, ◌<◌, Bool, true, false, List, [], ◌++◌, append-nil, append_assoc, map}
use Rattle.std.proofs.lemmas.Bool.{eqb-true}
use Rattle.qs_node_step.specs.declared.trace.Step.{Step}
use Rattle.qs_packet.specs.declared.message.Message.{Message}
use Rattle.qs_packet.specs.declared.packet.Packet as packets
use Rattle.qs_session_channels.specs.End.{Packet}
use Rattle.qs_session_channels.specs.Network.{Among}
use Rattle.qs_world_links.proofs.Linking.{put_to_more, took_from_more}
use Rattle.qs_world_merge.proofs.Members.{among_front, among_map, map_among}
use Rattle.qs_world_merge.specs.StepMoves.{seen}
use Rattle.qs_world_traces.specs.Links.{put_to, took_from}

-- ---- fronts

pub record IsFront {A : Type 0} (xs ys : List A) : Type 0 where
  pub rest : List A
  pub is : ys ≡ xs ++ rest

pub whole_front : {A : Type 0} (xs : List A) → IsFront xs xs
whole_front xs = record { rest = []; is = sym (append-nil xs) }

pub front_then : {A : Type 0} {xs ys zs : List A} → IsFront xs ys → IsFront ys zs → IsFront xs zs
front_then {A} {xs} {ys} {zs} a b = record { rest = a.rest ++ b.rest; is = b.is ∙ (ap (λ (l : List A). l ++ b.rest) a.is ∙ append_assoc xs a.rest b.rest) }

pub seen_front : (xs ys : List packets.Packet) (p : Packet Message) → IsFront xs ys → Among (map seen xs) p → Among (map seen ys) p
seen_front xs ys p front among = let found = among_map seen xs p among in
    map_among seen ys found.0 p (subst (λ (l : List packets.Packet). Among l found.0) (sym front.is) (among_front xs front.rest found.0 found.1)) found.2

puts_front : (n : ℕ) (xs ys : List Step) → IsFront xs ys → IsFront (put_to n xs) (put_to n ys)
puts_front n xs ys front = record { rest = put_to n front.rest; is = ap (put_to n) front.is ∙ put_to_more n xs front.rest }

pub takes_front : (m : ℕ) (xs ys : List Step) → IsFront xs ys → IsFront (took_from m xs) (took_from m ys)
takes_front m xs ys front = record { rest = took_from m front.rest; is = ap (took_from m) front.is ∙ took_from_more m xs front.rest }

-- ---- what is taken was put

abbrev pub AllPut : ℕ → (ℕ → List Step) → Type 0
AllPut size traces = (n m : ℕ) (p : Packet Message) → n < size → m < size → m ≢ n → Among (map seen (took_from m (traces n))) p → Among (map seen (put_to n (traces m))) p

module _ (size k : ℕ) (old mid new : ℕ → List Step) (others_mid : (j : ℕ) → (j == k) ≡ false → mid j ≡ old j) (others_new : (j : ℕ) → (j == k) ≡ false → new j ≡ old j)
    (since : IsFront (old k) (mid k)) (till : IsFront (mid k) (new k)) (was : AllPut size old) (will : AllPut size new) where
  -- of a trace that is longer then, by its number
  old_front : (m : ℕ) (b : Bool) → (m == k) ≡ b → IsFront (old m) (mid m)
  old_front m true is = subst (λ (j : ℕ). IsFront (old j) (mid j)) (sym (eqb-true m k is)) since
  old_front m false is = subst (IsFront (old m)) (sym (others_mid m is)) (whole_front (old m))

  new_front : (n : ℕ) (b : Bool) → (n == k) ≡ b → IsFront (mid n) (new n)
  new_front n true is = subst (λ (j : ℕ). IsFront (mid j) (new j)) (sym (eqb-true n k is)) till
  new_front n false is = subst (IsFront (mid n)) (others_mid n is ∙ sym (others_new n is)) (whole_front (mid n))

  pub amid : AllPut size mid
  amid n m p low_n low_m apart among = by (n == k) refl (m == k) refl
    where
      by : (b : Bool) → (n == k) ≡ b → (c : Bool) → (m == k) ≡ c → Among (map seen (put_to n (mid m))) p
      by true is true also = absurd (apart (eqb-true m k also ∙ sym (eqb-true n k is)))
      by true is false also = subst (λ (l : List Step). Among (map seen (put_to n l)) p) (others_new m also ∙ sym (others_mid m also))
          (will n m p low_n low_m apart (seen_front (took_from m (mid n)) (took_from m (new n)) p (takes_front m (mid n) (new n) (new_front n true is)) among))
      by false is c also = seen_front (put_to n (old m)) (put_to n (mid m)) p (puts_front n (old m) (mid m) (old_front m c also))
          (was n m p low_n low_m apart (subst (λ (l : List Step). Among (map seen (took_from m l)) p) (others_mid n is) among))
