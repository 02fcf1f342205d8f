-- A server replies to each operation of its own, and a client to a loan.
use Rattle.qs_world_refine.proofs.Words.{◌≡◌, ◌≢◌, ◌⊎◌, inl, inr, ℕ, ◌<◌, ◌≤◌, ◌==◌, true, Some, None, is_some, refl, sym, subst, ap, ◌∙◌, arith, eqb-true, eqb-false, nat_tests, ClientNo, Tid, is_for, ServerValue, number_of, Op, Note, ServerKind, lent_to}
use Rattle.qs_ops.specs.Server.{reply_in, reply_of}
use Rattle.qs_ops.specs.Table.{reply_to}
use Rattle.qs_ops.specs.declared.operation.Op.TheVariants.{Put, Append, Del, Get, Listing, Notes, Bind, Find, Timer, Left, Window, Title, Keep, Fetch, Extra, Lend}
use Rattle.qs_ops.specs.declared.server.ServerKind.TheVariants as kinds

module _ (value : ServerValue) (tid : Tid) (op : Op) where
  -- a server with a table
  by_table : (k : ServerKind) (which : ℕ) → number_of k ≡ which → which ≢ 3 → which ≢ 6 → reply_in value k tid op ≡ reply_to value.table tid op
  by_table (kinds.Files quota) which is a b = refl
  by_table kinds.Audit which is a b = refl
  by_table kinds.Names which is a b = refl
  by_table kinds.Timers which is a b = absurd (a (sym is))
  by_table kinds.Windows which is a b = refl
  by_table kinds.Scratch which is a b = refl
  by_table kinds.Nothing which is a b = absurd (b (sym is))

is_timers : (k : ServerKind) → number_of k ≡ 3 → k ≡ kinds.Timers
is_timers (kinds.Files quota) is = absurd (cc is)
is_timers kinds.Audit is = absurd (cc is)
is_timers kinds.Names is = absurd (cc is)
is_timers kinds.Timers is = refl
is_timers kinds.Windows is = absurd (cc is)
is_timers kinds.Scratch is = absurd (cc is)
is_timers kinds.Nothing is = absurd (cc is)

is_nothing : (k : ServerKind) → number_of k ≡ 6 → k ≡ kinds.Nothing
is_nothing (kinds.Files quota) is = absurd (cc is)
is_nothing kinds.Audit is = absurd (cc is)
is_nothing kinds.Names is = absurd (cc is)
is_nothing kinds.Timers is = absurd (cc is)
is_nothing kinds.Windows is = absurd (cc is)
is_nothing kinds.Scratch is = absurd (cc is)
is_nothing kinds.Nothing is = refl

-- the operation is of a server, which replies, or lends to a client
pub record OfServer (s : ℕ) (tid : Tid) (op : Op) : Type 0 where
  pub below : s < 7
  pub no_loan : lent_to op ≡ None
  pub replies : (value : ServerValue) → number_of value.kind ≡ s → is_some (reply_of value tid op) ≡ true

pub record OfClient (s : ℕ) (op : Op) : Type 0 where
  pub client : ClientNo
  pub above : 32 ≤ s
  pub lends : lent_to op ≡ Some client

module _ (s : ℕ) (tid : Tid) where
  tabled : (which : ℕ) (op : Op) → (which == s) ≡ true → which < 7 → which ≢ 3 → which ≢ 6 → lent_to op ≡ None → ((value : ServerValue) → is_some (reply_to value.table tid op) ≡ true) → OfServer s tid op
  tabled which op its below a b no_loan some = record {
    below = subst (λ (k : ℕ). k < 7) (eqb-true which s its) below;
    no_loan = no_loan;
    replies = λ value is. ap is_some (by_table value tid op value.kind which (is ∙ sym (eqb-true which s its)) a b) ∙ some value;
  }

  pub own_replies : (op : Op) → is_for (record { 0 = s }) op ≡ true → OfServer s tid op ⊎ OfClient s op
  own_replies (Put name text) its = inl (tabled 0 (Put name text) its (omega arith) (eqb-false 0 3 refl) (eqb-false 0 6 refl) refl (λ value. refl))
  own_replies (Append name text) its = inl (tabled 0 (Append name text) its (omega arith) (eqb-false 0 3 refl) (eqb-false 0 6 refl) refl (λ value. refl))
  own_replies (Del name) its = inl (tabled 0 (Del name) its (omega arith) (eqb-false 0 3 refl) (eqb-false 0 6 refl) refl (λ value. refl))
  own_replies (Get name) its = inl (tabled 0 (Get name) its (omega arith) (eqb-false 0 3 refl) (eqb-false 0 6 refl) refl (λ value. refl))
  own_replies Listing its = inl (tabled 0 Listing its (omega arith) (eqb-false 0 3 refl) (eqb-false 0 6 refl) refl (λ value. refl))
  own_replies (Note text) its = inl (tabled 1 (Note text) its (omega arith) (eqb-false 1 3 refl) (eqb-false 1 6 refl) refl (λ value. refl))
  own_replies Notes its = inl (tabled 1 Notes its (omega arith) (eqb-false 1 3 refl) (eqb-false 1 6 refl) refl (λ value. refl))
  own_replies (Bind name text) its = inl (tabled 2 (Bind name text) its (omega arith) (eqb-false 2 3 refl) (eqb-false 2 6 refl) refl (λ value. refl))
  own_replies (Find name) its = inl (tabled 2 (Find name) its (omega arith) (eqb-false 2 3 refl) (eqb-false 2 6 refl) refl (λ value. refl))
  own_replies (Timer name ticks) its = inl (record {
    below = subst (λ (k : ℕ). k < 7) (eqb-true 3 s its) (omega arith);
    no_loan = refl;
    replies = λ value is. rw (is_timers value.kind (is ∙ sym (eqb-true 3 s its))) refl;
  })
  own_replies (Left name) its = inl (record {
    below = subst (λ (k : ℕ). k < 7) (eqb-true 3 s its) (omega arith);
    no_loan = refl;
    replies = λ value is. rw (is_timers value.kind (is ∙ sym (eqb-true 3 s its))) refl;
  })
  own_replies (Window name text) its = inl (tabled 4 (Window name text) its (omega arith) (eqb-false 4 3 refl) (eqb-false 4 6 refl) refl (λ value. refl))
  own_replies (Title name) its = inl (tabled 4 (Title name) its (omega arith) (eqb-false 4 3 refl) (eqb-false 4 6 refl) refl (λ value. refl))
  own_replies (Keep name text) its = inl (tabled 5 (Keep name text) its (omega arith) (eqb-false 5 3 refl) (eqb-false 5 6 refl) refl (λ value. refl))
  own_replies (Fetch name) its = inl (tabled 5 (Fetch name) its (omega arith) (eqb-false 5 3 refl) (eqb-false 5 6 refl) refl (λ value. refl))
  own_replies (Extra code text) its = inl (record {
    below = subst (λ (k : ℕ). k < 7) (eqb-true 6 s its) (omega arith);
    no_loan = refl;
    replies = λ value is. rw (is_nothing value.kind (is ∙ sym (eqb-true 6 s its))) refl;
  })
  own_replies (Lend client) its = inr (record { client = client; above = grind (arith, nat_tests, its); lends = refl })
