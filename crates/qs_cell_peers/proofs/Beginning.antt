-- The sessions of a node are made one after the other, each in its place.
use Rattle.std.proofs.Common.{◌≡◌, ◌≢◌, ◌⊎◌, ℕ, ◌+◌, ◌-◌, ◌≤◌, ◌<◌, ◌^◌, List, [], ◌∷◌, ◌++◌, refl, sym, ap, subst, ◌∙◌, arith, inl, inr, length, true, if◌then◌else◌}
use Rattle.std.specs.Prelude.{nat_lt}
use Rattle.std.proofs.lemmas.Bool.{cases_eq}
use Rattle.std.proofs.lemmas.Bool.Decides.{nat_tests}
use Rattle.std.proofs.lemmas.List.{get_or_append_left, get_or_push, length_push}
use Rattle.qs_base.specs.declared.identifiers.NodeNo.{NodeNo}
use Rattle.qs_record.specs.Grammar.{is_node}
use Rattle.qs_session.proofs.Spelling.{spelled_new}
use Rattle.qs_session.specs.Seen.{SessionValue}
use Rattle.qs_session_channels.specs.End.{fresh}
use Rattle.qs_cell_peers.specs.Peers.{is_peer, place}
use Rattle.qs_cell_peers.specs.Sessions.{AreSessions, IsSessionWith, session_at}
use Rattle.qs_cell_peers.proofs.Places.{peer_is}

-- how many nodes below k are others than n
abbrev pub others_below : ℕ → ℕ → ℕ
others_below n k = if nat_lt n k then k - 1 else k

abbrev pub begun : NodeNo → ℕ → ℕ → SessionValue
begun n inc m = record { me = n; peer = record { 0 = m }; end = fresh inc }

-- those with all nodes below k are made
pub record AreBegun (n : NodeNo) (inc k : ℕ) (xs : List SessionValue) : Type 0 where
  pub count : length xs ≡ others_below n.0 k
  pub each : (m : ℕ) → m < k → m ≢ n.0 → session_at n xs m ≡ begun n inc m

pub none_begun : (n : NodeNo) (inc : ℕ) → AreBegun n inc 0 []
none_begun n inc = record { count = grind (arith, nat_tests); each = λ m lt other. absurd (omega (arith, lt)) }

less : (n k m : ℕ) → m < k → m ≢ n → k ≢ n → place n m < others_below n k
less n k m lt other k_other = grind (arith, nat_tests, lt, other, k_other)

here : (n k : ℕ) → k ≢ n → others_below n k ≡ place n k
here n k other = grind (arith, nat_tests, other)

more_others : (n k : ℕ) → k ≢ n → others_below n k + 1 ≡ others_below n (k + 1)
more_others n k other = grind (arith, nat_tests, other)

same_others : (n k : ℕ) → k ≡ n → others_below n k ≡ others_below n (k + 1)
same_others n k is = grind (arith, nat_tests, is)

-- one more
pub begun_more : (n : NodeNo) (inc k : ℕ) (xs : List SessionValue) (x : SessionValue) → AreBegun n inc k xs → k ≢ n.0 → x ≡ begun n inc k → AreBegun n inc (k + 1) (xs ++ x ∷ [])
begun_more n inc k xs x b other is = record {
  count = length_push xs x ∙ (ap (λ (i : ℕ). i + 1) b.count ∙ more_others n.0 k other);
  each = λ m lt m_other. by m lt m_other (cases_eq m k);
}
  where
    by : (m : ℕ) → m < k + 1 → m ≢ n.0 → (m ≡ k) ⊎ (m ≢ k) → session_at n (xs ++ x ∷ []) m ≡ begun n inc m
    by m lt m_other (inl e) = subst (λ (j : ℕ). session_at n (xs ++ x ∷ []) j ≡ begun n inc j) (sym e) (get_or_push xs x (begun n 0 k) (place n.0 k) (b.count ∙ here n.0 k other) ∙ is)
    by m lt m_other (inr apart) =
        let below : m < k = omega (arith, lt, apart) in
        get_or_append_left xs (x ∷ []) (begun n 0 m) (place n.0 m) (subst (λ (i : ℕ). place n.0 m < i) (sym b.count) (less n.0 k m below m_other other)) ∙ b.each m below m_other

-- the node itself is passed over
pub begun_over : (n : NodeNo) (inc k : ℕ) (xs : List SessionValue) → AreBegun n inc k xs → k ≡ n.0 → AreBegun n inc (k + 1) xs
begun_over n inc k xs b is = record { count = b.count ∙ same_others n.0 k is; each = λ m lt other. b.each m (omega (arith, lt, other, is)) other }

-- ---- all of them

size_is : (n nodes count : ℕ) → n < nodes → count ≡ others_below n nodes → count + 1 ≡ nodes
size_is n nodes count lt is = grind (arith, nat_tests, lt, is)

is_low : (m : ℕ) → m < 8 → is_node m ≡ true
is_low m lt = grind (arith, nat_tests, lt)

module _ (n : NodeNo) (inc nodes : ℕ) (xs : List SessionValue) (b : AreBegun n inc nodes xs) (in_run : n.0 < nodes) where
  pub size_begun : length xs + 1 ≡ nodes
  size_begun = size_is n.0 nodes (length xs) in_run b.count

  pub begun_at : (m : ℕ) → is_peer (length xs + 1) n.0 m ≡ true → session_at n xs m ≡ begun n inc m
  begun_at m peer = let p = peer_is (length xs + 1) n.0 m peer in b.each m (subst (λ (k : ℕ). m < k) size_begun p.0) p.1

  pub are_sessions : nodes ≤ 8 → inc < 2 ^ 62 → AreSessions n xs
  are_sessions few low = record {
    in_run = subst (λ (k : ℕ). n.0 < k) (sym size_begun) in_run;
    few = subst (λ (k : ℕ). k ≤ 8) (sym size_begun) few;
    each = λ m peer. subst (IsSessionWith n m) (sym (begun_at m peer)) (record {
      me = refl;
      peer = refl;
      spelled = spelled_new n (record { 0 = m }) inc (is_low n.0 (omega (arith, in_run, few))) (is_low m (omega (arith, few, size_begun, (peer_is (length xs + 1) n.0 m peer).0))) low;
    });
  }
