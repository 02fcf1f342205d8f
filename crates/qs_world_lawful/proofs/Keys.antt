-- Keys of requests and links: each is found under its own key alone.
use Rattle.qs_world_lawful.proofs.Words.{◌≡◌, ◌⊎◌, inl, inr, ℕ, Bool, true, false, Less, Equal, Greater, refl, sym, ap, subst, ◌∙◌, true≢false, is_at, Ordering, tied_itself, nat_cmp_total, exact_unsigned, exact_pairs, member_cmp, Member, link_cmp, request_cmp, life_cmp, Life, Link, RequestNo}
use Rattle.std.specs.Ordering.{nat_cmp}

module _ {K : Type 0} (cmp : K → K → Ordering) (exact : (a b : K) → cmp a b ≡ Equal → a ≡ b) (itself : (a : K) → cmp a a ≡ Equal) where
  at_exact : (a b : K) → is_at (cmp a) b ≡ true → a ≡ b
  at_exact a b = by (cmp a b) refl
    where
      by : (r : Ordering) → cmp a b ≡ r → is_at (cmp a) b ≡ true → a ≡ b
      by Less is h = absurd (cc (rw is at h))
      by Equal is h = exact a b is
      by Greater is h = absurd (cc (rw is at h))

  -- two keys are the same, or neither is found under the other
  pub record KeyApart (a b : K) : Type 0 where
    pub at : is_at (cmp b) a ≡ false
    pub keys : (k : K) → is_at (cmp b) k ≡ true → is_at (cmp a) k ≡ false

  pub same_key_or : (a b : K) → (a ≡ b) ⊎ KeyApart a b
  same_key_or a b = by (is_at (cmp b) a) refl
    where
      turned : is_at (cmp b) a ≡ false → (k : K) → is_at (cmp b) k ≡ true → (t : Bool) → is_at (cmp a) k ≡ t → t ≡ false
      turned far k at false is = refl
      turned far k at true is = absurd (true≢false (sym (subst (λ (x : K). is_at (cmp b) x ≡ true) (sym (at_exact a k is)) at) ∙ far))

      by : (t : Bool) → is_at (cmp b) a ≡ t → (a ≡ b) ⊎ KeyApart a b
      by true is = inl (sym (at_exact b a is))
      by false is = inr (record { at = is; keys = λ k at. turned is k at _ refl })

pub link_exact : (l m : Link) → link_cmp l m ≡ Equal → l ≡ m
link_exact l m e = ap (λ (p : ℕ × ℕ). record { from = record { 0 = p.0 }; to = record { 0 = p.1 } }) (exact_pairs nat_cmp nat_cmp exact_unsigned exact_unsigned (l.from.0, l.to.0) (m.from.0, m.to.0) e)

pub link_itself : (l : Link) → link_cmp l l ≡ Equal
link_itself l = rw (tied_itself nat_cmp_total l.from.0, tied_itself nat_cmp_total l.to.0) refl

pub request_exact : (r s : RequestNo) → request_cmp r s ≡ Equal → r ≡ s
request_exact r s e = ap (λ (p : Link × ℕ). record { link = p.0; number = p.1 }) (exact_pairs link_cmp nat_cmp link_exact exact_unsigned (r.link, r.number) (s.link, s.number) e)

pub request_itself : (r : RequestNo) → request_cmp r r ≡ Equal
request_itself r = rw (tied_itself nat_cmp_total r.link.from.0, tied_itself nat_cmp_total r.link.to.0, tied_itself nat_cmp_total r.number) refl

pub member_exact : (m n : Member) → member_cmp m n ≡ Equal → m ≡ n
member_exact m n e = ap (λ (p : ℕ × ℕ). record { node = record { 0 = p.0 }; server = record { 0 = p.1 } }) (exact_pairs nat_cmp nat_cmp exact_unsigned exact_unsigned (m.node.0, m.server.0) (n.node.0, n.server.0) e)

pub member_itself : (m : Member) → member_cmp m m ≡ Equal
member_itself m = rw (tied_itself nat_cmp_total m.node.0, tied_itself nat_cmp_total m.server.0) refl

pub member_found : (m n : Member) → is_at (member_cmp m) n ≡ true → m ≡ n
member_found m n is = at_exact member_cmp member_exact member_itself m n is

pub life_exact : (l m : Life) → life_cmp l m ≡ Equal → l ≡ m
life_exact l m e = ap (λ (p : Member × ℕ). record { member = p.0; inc = p.1 }) (exact_pairs member_cmp nat_cmp member_exact exact_unsigned (l.member, l.inc) (m.member, m.inc) e)

pub life_itself : (l : Life) → life_cmp l l ≡ Equal
life_itself l = rw (tied_itself nat_cmp_total l.member.node.0, tied_itself nat_cmp_total l.member.server.0, tied_itself nat_cmp_total l.inc) refl
