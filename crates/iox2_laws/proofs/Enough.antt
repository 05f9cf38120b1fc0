-- A new domain's state is well-formed, and in a well-formed state no publisher holds more than the worst case.
use Rattle.std.proofs.Common.{refl, ◌≡◌, ℕ, ◌+◌, ◌*◌, ◌≤◌, ◌<◌, [], ◌++◌, length, sym, arith, None}
use Rattle.std.specs.List.{flat_map}
use Rattle.std.proofs.lemmas.Bool.{true≢false}
use Rattle.std.proofs.lemmas.List.{length-append}
use Rattle.std.proofs.lemmas.Option.{none-some}
use Rattle.iox2_machine.specs.machine.Limits.{buffer_limit, channel_count}
use Rattle.iox2_machine.specs.machine.Places.{occupants}
use Rattle.iox2_machine.specs.machine.Mailbox.{numbers_in, empty_mailbox}
use Rattle.iox2_machine.specs.machine.State.{State, fresh, held}
use Rattle.iox2_machine.specs.machine.WellFormed.{PlacesAgree, PublisherIsWellFormed, MailboxIsWellFormed, IsWellFormed}
use Rattle.iox2_machine.specs.machine.WellFormed.{HoldsAtMostWorstCase}
use Rattle.iox2_machine.specs.declared.service_config.ServiceConfig.{ServiceConfig}
use Rattle.iox2_laws.proofs.NumberLemmas.{size_le_length, length-flat_map}
use Rattle.iox2_laws.proofs.PlaceLemmas.{length-occupants_le}
use Rattle.iox2_laws.proofs.MailboxLemmas.{IsWithin-empty, OthersWithin-none, length-numbers_in}

-- ---- a new domain

-- no port stands anywhere, and none has a record
pub PlacesAgree-nothing : (limit : ℕ) → PlacesAgree limit [] (λ _. None)
PlacesAgree-nothing limit = record {
  bound = omega arith;
  stands = λ id place h. absurd (none-some place h);
  known = λ id place h. absurd (none-some id h);
}

fresh_mailbox : {T U : Type 0} (c : ServiceConfig) (p q : ℕ) → MailboxIsWellFormed (fresh {T = T} {U = U} c) p q
fresh_mailbox c p q = record {
  within = IsWithin-empty (buffer_limit c) c.subscriber_max_borrowed_samples;
  others = OthersWithin-none (channel_count c) (buffer_limit c) empty_mailbox refl;
  room = λ y e. absurd (none-some y e);
  others_room = λ y e. absurd (none-some y e);
  below = λ n h. absurd (true≢false (sym h));
  known = λ h. absurd (true≢false (sym h));
  sender_end = λ x e. absurd (none-some x e);
  receiver_end = λ h. absurd (true≢false (sym h));
  departed = λ _ h. absurd (true≢false (sym h));
}

-- a new domain's state is well-formed
pub fresh_is_well_formed : {T U : Type 0} (c : ServiceConfig) → IsWellFormed (fresh {T = T} {U = U} c)
fresh_is_well_formed {T} {U} c = record {
  publisher_places = PlacesAgree-nothing c.max_publishers;
  subscriber_places = PlacesAgree-nothing c.max_subscribers;
  publishers = λ p x e. absurd (none-some x e);
  subscribers = λ q y e. absurd (none-some y e);
  mailboxes = λ p q. fresh_mailbox {T = T} {U = U} c p q;
  loans = λ n l e. absurd (none-some l e);
}

-- ---- enough slots

-- more factors make a larger product
more_times : (a b c : ℕ) → a ≤ b → a * c ≤ b * c
more_times a b c h = grind arith

-- and so does a further factor
more_factors : (n a : ℕ) → 0 < n → a ≤ n * a
more_factors n a h = grind arith

split_times : (a b d : ℕ) → a * (b + d) ≡ a * b + a * d
split_times a b d = grind arith

regroup : (a n d : ℕ) → a * (n * d) ≡ a * n * d
regroup a n d = grind arith

module _ {T U : Type 0} (s : State T U) (w : IsWellFormed s) where
  -- a mailbox has no more numbers than wait and are borrowed at most
  pub length-mailbox_le : (p q : ℕ) → length (numbers_in (s.mailboxes p q)) ≤ channel_count s.config
      * (buffer_limit s.config + (s.config).subscriber_max_borrowed_samples)
  length-mailbox_le p q =
      let m : MailboxIsWellFormed s p q = w.mailboxes p q in
      let channels : ℕ = channel_count s.config in
      let borrows : ℕ = (s.config).subscriber_max_borrowed_samples in
      let few : length (numbers_in (s.mailboxes p q)) ≤ channels * buffer_limit s.config + borrows =
      length-numbers_in (buffer_limit s.config) borrows channels (s.mailboxes p q) (omega arith) m.within m.others in
      let more : borrows ≤ channels * borrows = more_factors channels borrows (omega arith) in
      let split : channels * (buffer_limit s.config + borrows) ≡ channels * buffer_limit s.config + channels * borrows =
      split_times channels (buffer_limit s.config) borrows in
      omega (arith, few, more, split)

  -- no publisher holds more than the worst case
  pub holds_at_most_worst_case : HoldsAtMostWorstCase s
  holds_at_most_worst_case p x e =
      let each : ℕ = buffer_limit s.config + (s.config).subscriber_max_borrowed_samples in
      let most : ℕ = channel_count s.config * each in
      let b : PublisherIsWellFormed s p x = w.publishers p x e in
      let boxes : length (flat_map (λ q. numbers_in (s.mailboxes p q)) (occupants x.ends)) ≤ length
      (occupants x.ends) * most =
      length-flat_map (λ q. numbers_in (s.mailboxes p q)) most (length-mailbox_le p) (occupants x.ends) in
      let ends : length (occupants x.ends) ≤ (s.config).max_subscribers =
      omega (arith, length-occupants_le x.ends, b.ends_bound) in
      let times : length (occupants x.ends) * most ≤ (s.config).max_subscribers * most = more_times _ _ _ ends in
      let all : (s.config).max_subscribers * most ≡ (s.config).max_subscribers * channel_count s.config * each =
      regroup _ _ _ in
      omega (
        arith,
        size_le_length (held s p x),
        length-append (x.loans ++ x.history) (flat_map (λ q. numbers_in (s.mailboxes p q)) (occupants x.ends)),
        length-append x.loans x.history,
        b.history_bound,
      )
