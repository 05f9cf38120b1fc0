-- The worst case is reached, and it is the least number of slots with which no loan is refused.
use Rattle.std.proofs.Common.{◌≡◌, ℕ, suc, ◌+◌, ◌*◌, ◌-◌, ◌^◌, ◌≤◌, ◌<◌, true, false, ◌&&◌, List, [], ◌∷◌, length, refl}
use Rattle.std.proofs.Common.{sym, ap, subst, ◌∙◌, arith, Option, None, Some, ◌⊎◌, ⊎_elim, inr, replicate}
use Rattle.std.specs.Prelude.{slice_get}
use Rattle.std.proofs.lemmas.Bool.{lt-ltb}
use Rattle.iox2_machine.specs.machine.Limits.{buffer_limit, worst_case, last_number, fits, segment_fits}
use Rattle.iox2_machine.specs.machine.Numbers.{size}
use Rattle.iox2_machine.specs.machine.Records.{Publisher}
use Rattle.iox2_machine.specs.machine.State.{State, Messages, fresh, no_messages, held}
use Rattle.iox2_machine.specs.machine.Ports.{slots_for, first_segment_fits}
use Rattle.iox2_machine.specs.declared.service_config.ServiceConfig.{ServiceConfig}
use Rattle.iox2_laws.proofs.Enough.{fresh_is_well_formed, holds_at_most_worst_case}
use Rattle.iox2_commands.specs.Outcomes.{Handle, Event}
use Rattle.iox2_worst_case.specs.Fills.{is_granted}
use Rattle.iox2_machine.specs.machine.Environments.{ample_memory}
use Rattle.iox2_commands.specs.Runs.{Run, any_defaults}
use Rattle.iox2_worst_case.specs.FillingCommands.{publisher_command, loan_command, subscribers_filled, filling_commands}
use Rattle.iox2_worst_case.specs.FillingCommands.{IsFillable, WorstCaseIsReached, WorstCaseIsLeast}
use Rattle.iox2_commands.specs.declared.command.Command.{Command}
use Rattle.iox2_commands.specs.declared.reply.Reply.{Reply}
use Rattle.iox2_commands.specs.declared.reply.Reply.TheVariants.{PublisherMade}
use Rattle.iox2_commands.proofs.StepLaws.{IsSound, step_sound}
use Rattle.iox2_worst_case.proofs.FillingNumbers.{numbers_from, ports_from, recent}
use Rattle.iox2_worst_case.proofs.FillingRuns.{IsRefusedLoan, Leads, leads_append, leads_further, RefusesAt, GrantsAll}
use Rattle.iox2_worst_case.proofs.FillingRuns.{run_leads}
use Rattle.iox2_worst_case.proofs.FillingShape.{filler, IsFilling}
use Rattle.iox2_worst_case.proofs.FillingPorts.{IsBegun, publisher_step, filler_settings, length_one}
use Rattle.iox2_worst_case.proofs.FillingBoxes.{none_full}
use Rattle.iox2_worst_case.proofs.FillingAll.{sends_each, IsRested, AllRested, subscribers_lead, IsLent, loans_lead}
use Rattle.iox2_worst_case.proofs.FillingAll.{holds_worst_case, one_channel}

-- ---- sums

-- fewer factors make a smaller product
fewer_times : (a b c d : ℕ) → a ≤ b → c ≤ d → a * c ≤ b * d
fewer_times a b c d h k = grind arith

-- a product with a positive factor is no smaller than the other one
positive_times : (a b : ℕ) → 0 < b → a ≤ a * b
positive_times a b h = grind arith

-- a product with a sum
split_times : (a b d e : ℕ) → a * (b + d + e) ≡ a * (d + b) + a * e
split_times a b d e = grind arith

-- the counters don't reach their ends
module _ (c : ServiceConfig) (most : ℕ) (able : IsFillable c most) where
  some_subscribers : c.max_subscribers ≤ c.max_subscribers * (buffer_limit c + c.subscriber_max_borrowed_samples)
  some_subscribers = positive_times c.max_subscribers (buffer_limit c + c.subscriber_max_borrowed_samples) (omega arith)

  plain_sum : c.max_subscribers * (buffer_limit c + c.subscriber_max_borrowed_samples) + c.history_size + most < 2 ^ 64
  plain_sum = subst (λ n. n < 2 ^ 64) (sym (one_channel c most able.channels)) able.sum

  few_subscribers : 2 + c.max_subscribers < last_number
  few_subscribers =
      let sum : c.max_subscribers * (buffer_limit c + c.subscriber_max_borrowed_samples) + c.history_size + most < 2
      ^ 64 = plain_sum in
      let total : ℕ = c.max_subscribers * (buffer_limit c + c.subscriber_max_borrowed_samples) in
      let low : total < 2 ^ 64 = omega (arith, sum) in
      omega (arith, some_subscribers, low)

  few_messages : suc (0 + c.max_subscribers * sends_each c) + most < last_number
  few_messages =
      let subscribers : ℕ = c.max_subscribers in
      let past : ℕ = c.history_size in
      let total : ℕ = subscribers * (buffer_limit c + c.subscriber_max_borrowed_samples) in
      let sum : total + past + most < 2 ^ 64 = plain_sum in
      let bound : ℕ = 2 ^ 64 - 1 in
      let product : subscribers * past ≤ bound * bound =
      fewer_times subscribers bound past bound (omega (arith, sum, some_subscribers)) (omega (arith, sum)) in
      let split : subscribers * sends_each c ≡ total + subscribers * past =
      split_times subscribers c.subscriber_max_borrowed_samples (buffer_limit c) past in
      omega (arith, sum, product, split)

  -- the publisher gets no more slots than the worst case
  few_slots : (slots : Option ℕ) → slots_for c (filler_settings c most slots) ≤ worst_case c most
  few_slots None = omega arith
  few_slots (Some asked) = omega arith

  -- the first segment fits a machine word
  fits_first : (slots : Option ℕ) → first_segment_fits c (filler_settings c most slots) ≡ true
  fits_first slots =
      let available : ℕ = slots_for c (filler_settings c most slots) in
      ap (λ b. b && segment_fits c available (filler_settings c most slots).initial_max_slice_len)
      (lt-ltb (worst_case c most) (2 ^ 64) able.sum)
      ∙ ap (λ n. segment_fits c available n) (length_one c.variant)
      ∙ ap (λ n. fits (available * 1 * n)) able.units
      ∙ lt-ltb (available * 1 * 1) (2 ^ 64) (omega (arith, few_slots slots, able.sum))

-- ---- every run

-- the slots that the publisher gets
abbrev pub given_slots : ServiceConfig → (most : ℕ) → (slots : Option ℕ) → ℕ
given_slots c most slots = slots_for c (filler_settings c most slots)

module _ {T U : Type 0} (c : ServiceConfig) (most : ℕ) (value : T) (slots : Option ℕ) (able : IsFillable c most) where
  -- All loans are out in the end, and all subscribers are full.
  abbrev Ends : State T U → List Handle → Type 0
  Ends s handles = IsLent c most (given_slots c most slots) value able.some_loans able.units able.overflow
      (0 + c.max_subscribers * sends_each c)
      c.max_subscribers most s handles

  leads_all : Leads c most (given_slots c most slots) Ends (fresh c) [] (filling_commands c most value slots)
  leads_all = λ dv dh m o step w.
      let available : ℕ = given_slots c most slots in
      let sent : ℕ = 0 + c.max_subscribers * sends_each c in
      let begun : IsBegun c most slots o =
      publisher_step c most slots dv dh m [] o able.publishers (fits_first c most able slots) step w in
      let rested : IsRested c most available value able.some_loans able.units able.overflow 0 0 1 o.state
      (o.handle ∷ []) = record {
        bound = 1;
        full = record {
          boxes = _;
          filling = begun.filling;
          full = none_full c _ 1;
          named = record { count = refl; publisher = ap (λ h. Some h) begun.handle };
        };
        apart = omega arith;
        enough = λ h. absurd (omega arith);
      } in
      inr (
        ap is_granted begun.reply,
        leads_append c most available Ends (subscribers_filled c value 1 c.max_subscribers)
            (replicate most (loan_command c.variant)) o.state (o.handle ∷ [])
            (leads_further c most available
            (AllRested c most available value able.some_loans able.units able.overflow sent c.max_subscribers)
            (λ s1 h1. Leads c most available Ends s1 h1 (replicate most (loan_command c.variant)))
            (λ s1 h1 g. loans_lead c most available value able.some_loans able.units able.overflow most sent
            c.max_subscribers 0 s1 h1 (omega arith)
            (few_messages c most able) (record {
              boxes = ((g.1).full).boxes;
              bound = (g.1).bound;
              filling = ((g.1).full).filling;
              full = ((g.1).full).full;
              apart = (g.1).apart;
              enough = (g.1).enough;
              publisher = (((g.1).full).named).publisher;
            }))
            (subscribers_filled c value 1 c.max_subscribers) o.state (o.handle ∷ [])
            (subscribers_lead c most available value able.some_loans able.units able.overflow c.max_subscribers 0 sent 0
            c.max_subscribers 1 o.state (o.handle ∷ [])
            refl (omega arith) (omega arith) (few_subscribers c most able)
            (omega (arith, few_messages c most able)) rested)),
      )

  -- A loan is refused early.
  abbrev Refuses : List (Reply T U) → List (Event T U) → Messages T U → State T U → Type 0
  Refuses replies events m s =
      RefusesAt c most (given_slots c most slots) any_defaults no_messages (fresh c) []
      (filling_commands c most value slots) replies events m s

  -- Nothing is refused, and all loans are out in the end.
  abbrev Grants : List (Reply T U) → State T U → Type 0
  Grants replies s = GrantsAll c most (given_slots c most slots) Ends replies s

  -- a run does one or the other
  runs_so : (replies : List (Reply T U)) (events : List (Event T U)) (m : Messages T U) (s : State T U)
      → Run ample_memory any_defaults no_messages (fresh c) (filling_commands c most value slots) replies events m s
      → Refuses replies events m s ⊎ Grants replies s
  runs_so replies events m s run =
      run_leads c most (given_slots c most slots) Ends any_defaults no_messages m (fresh c) s []
      (filling_commands c most value slots) replies events
      (fresh_is_well_formed c) leads_all run

  -- the first reply names the publisher
  first_reply : (replies : List (Reply T U)) (events : List (Event T U)) (m : Messages T U) (s : State T U)
      → Run ample_memory any_defaults no_messages (fresh c) (filling_commands c most value slots) replies events m s
      → slice_get replies 0 ≡ Some (PublisherMade 1)
  first_reply (reply ∷ replies) (event ∷ events) m s run =
      let sound : IsSound (fresh c) (run.1).4 = step_sound ample_memory (run.1).0 (run.1).1 no_messages (fresh c) []
      (fresh_is_well_formed c) (publisher_command most slots) (run.1).4 (run.1).5 in
      let begun : IsBegun c most slots (run.1).4 =
      publisher_step c most slots (run.1).0 (run.1).1 no_messages [] (run.1).4 able.publishers
      (fits_first c most able slots) (run.1).5 sound.well_formed in
      ap (λ (r : Reply T U). Some r) (sym (run.1).6 ∙ begun.reply)
  first_reply [] events m s run = absurd run.1
  first_reply (reply ∷ replies) [] m s run = absurd run.1

  -- in the end the publisher holds the worst case
  publisher_full : (replies : List (Reply T U)) (s : State T U) → Grants replies s
      → (x : Publisher) × (s.publishers 1 ≡ Some x) × (size (held s 1 x) ≡ worst_case c most)
      × (size (held s 1 x) ≤ given_slots c most slots)
  publisher_full replies s grants =
      let available : ℕ = given_slots c most slots in
      let sent : ℕ = 0 + c.max_subscribers * sends_each c in
      let f : IsFilling c most available s sent most c.max_subscribers
      (ports_from 2 c.max_subscribers) false grants.2.boxes = grants.2.filling in
      let x : Publisher = filler most available f.longest (numbers_from (suc sent) most) (recent c.history_size sent)
      (ports_from 2 c.max_subscribers) false in (
        x,
        f.publisher,
        holds_worst_case c most available value able.some_loans able.units able.overflow sent most s grants.1
            able.subscribers able.channels grants.2,
        ((f.well_formed).publishers 1 x f.publisher).slots_bound refl,
      )

module _ {T U : Type 0} where
  -- with the worst case of slots no loan is refused, and all of them are filled
  pub worst_case_is_reached : WorstCaseIsReached T U
  worst_case_is_reached c loans value able replies events m s run =
      ⊎_elim
      (λ (refuses : Refuses c loans value None able replies events m s).
      let s' : State T U = refuses.6 in
      let r : IsRefusedLoan c loans (given_slots c loans None) s' refuses.1 refuses.2 = refuses.10 in
      let some : size (held s' 1 r.publisher) ≤ worst_case c (length (r.publisher).loans) =
      subst (λ (v : ServiceConfig). size (held s' 1 r.publisher) ≤ worst_case v (length (r.publisher).loans)) r.config
      (holds_at_most_worst_case s' r.well_formed 1 r.publisher r.present) in
      absurd (omega (arith, some, r.few, r.full)))
      (λ (grants : Grants c loans value None able replies s).
      let full : (x : Publisher) × (s.publishers 1 ≡ Some x) × (size (held s 1 x) ≡ worst_case c loans)
      × (size (held s 1 x) ≤ given_slots c loans None) =
      publisher_full c loans value None able replies s grants in
      (grants.0, (1, full.0, first_reply c loans value None able replies events m s run, full.1, full.2)))
      (runs_so c loans value None able replies events m s run)

  -- with fewer slots a loan is refused early
  pub worst_case_is_least : WorstCaseIsLeast T U
  worst_case_is_least c loans slots value able below replies events m s run =
      let fewer : Option ℕ = Some slots in
      ⊎_elim
      (λ (refuses : Refuses c loans value fewer able replies events m s).
      let r : IsRefusedLoan c loans (given_slots c loans fewer) refuses.6 refuses.1 refuses.2 = refuses.10 in (
        refuses.0,
        refuses.3 ∙ ap (λ (e : Command T U). Some e) r.asks,
        refuses.4 ∙ ap (λ (e : Reply T U). Some e) r.refused,
        refuses.5,
        refuses.6,
        refuses.7,
        refuses.8,
        refuses.9,
        1,
        r.publisher,
        first_reply c loans value fewer able replies events m s run,
        r.present,
        r.few,
      ))
      (λ (grants : Grants c loans value fewer able replies s).
      let full : (x : Publisher) × (s.publishers 1 ≡ Some x) × (size (held s 1 x) ≡ worst_case c loans)
      × (size (held s 1 x) ≤ given_slots c loans fewer) =
      publisher_full c loans value fewer able replies s grants in
      absurd (omega (
        arith,
        below,
        full.2,
        full.3,
        able.some_loans,
        some_subscribers c loans able,
        able.subscribers,
        one_channel c loans able.channels,
      )))
      (runs_so c loans value fewer able replies events m s run)
