-- Slots that wait in channels other than 0, and their numbers.
use Rattle.std.proofs.Common.{◌≡◌, ℕ, zero, suc, ◌+◌, ◌≤◌, Bool, true, false, cond, List, [], ◌∷◌, ◌++◌, map, eqb, ltb}
use Rattle.std.proofs.Common.{refl, ap, sym, ◌∙◌, arith}
use Rattle.std.proofs.lemmas.List.{map-append}
use Rattle.std.proofs.lemmas.List.Sums.{sum_by-append, sum_by-cons}
use Rattle.std.specs.List.{filter}
use Rattle.iox2_connections.specs.Link.{Link, slots_in, with_slots_in}
use Rattle.iox2_machine.specs.machine.Mailbox.{Mailbox, ChannelNumber, with_numbers_of, waiting_in, with_waiting_in}
use Rattle.iox2_connections.specs.Mailboxes.{numbered, mailbox_of}
use Rattle.iox2_connections.specs.Counters.{times, stands_in}

-- the slots alone
abbrev pub slots_of : List ChannelNumber → List ℕ
slots_of ms = map (λ (m : ChannelNumber). m.number) ms

-- ---- in numbers

-- a part by channel has the numbers of that part
part-numbered : (number : ℕ → ℕ) (test : ℕ → Bool) (ms : List ChannelNumber)
    → filter (λ (m : ChannelNumber). test m.channel) (numbered number ms) ≡ numbered number
    (filter (λ (m : ChannelNumber). test m.channel) ms)
part-numbered number test [] = refl
part-numbered number test (m ∷ ms) = by (test m.channel) (part-numbered number test ms) where
  by : (b : Bool) → filter (λ (x : ChannelNumber). test x.channel) (numbered number ms) ≡ numbered number
      (filter (λ (x : ChannelNumber). test x.channel) ms)
      → cond b (record m { number = number m.number } ∷ filter (λ (x : ChannelNumber). test x.channel)
      (numbered number ms)) (filter (λ (x : ChannelNumber). test x.channel) (numbered number ms))
      ≡ numbered number (cond b (m ∷ filter (λ (x : ChannelNumber). test x.channel) ms)
      (filter (λ (x : ChannelNumber). test x.channel) ms))
  by true rest = ap (λ (xs : List ChannelNumber). record m { number = number m.number } ∷ xs) rest
  by false rest = rest

pub slots-numbered : (number : ℕ → ℕ) (ms : List ChannelNumber)
    → slots_of (numbered number ms) ≡ map number (slots_of ms)
slots-numbered number [] = refl
slots-numbered number (m ∷ ms) = ap (λ (ns : List ℕ). number m.number ∷ ns) (slots-numbered number ms)

tagged-numbered : (number : ℕ → ℕ) (channel : ℕ) (slots : List ℕ)
    → map (λ n. record { channel = channel; number = n }) (map number slots) ≡ numbered number
    (map (λ n. record { channel = channel; number = n }) slots)
tagged-numbered number channel [] = refl
tagged-numbered number channel (s ∷ slots) =
    ap (λ (ms : List ChannelNumber). record { channel = channel; number = number s } ∷ ms)
    (tagged-numbered number channel slots)

-- what waits in a channel of a mailbox
pub waiting-in : (number : ℕ → ℕ) (channel : ℕ) (c : Link)
    → waiting_in channel (mailbox_of number c) ≡ map number (slots_in channel c)
waiting-in number zero c = refl
waiting-in number (suc k) c =
    ap slots_of (part-numbered number (λ channel. eqb channel (suc k)) c.others)
    ∙ slots-numbered number (filter (λ (m : ChannelNumber). eqb m.channel (suc k)) c.others)

-- and what waits there instead
pub with-waiting-in : (number : ℕ → ℕ) (channel : ℕ) (slots : List ℕ) (c : Link)
    → with_waiting_in channel (map number slots) (mailbox_of number c) ≡ mailbox_of number
    (with_slots_in channel slots c)
with-waiting-in number zero slots c = refl
with-waiting-in number (suc k) slots c =
    ap (λ (ms : List ChannelNumber). let box : Mailbox = record (mailbox_of number c) { others = ms } in box) all
  where
    lower : List ChannelNumber
    lower = filter (λ (m : ChannelNumber). ltb m.channel (suc k)) c.others

    higher : List ChannelNumber
    higher = filter (λ (m : ChannelNumber). ltb (suc k) m.channel) c.others

    own : List ChannelNumber
    own = map (λ n. record { channel = suc k; number = n }) slots

    all : with_numbers_of (suc k) (map number slots) (numbered number c.others) ≡ numbered number
        (with_numbers_of (suc k) slots c.others)
    all = (λ i. part-numbered number (λ channel. ltb channel (suc k)) c.others i
        ++ (tagged-numbered number (suc k) slots i ++ part-numbered number (λ channel. ltb (suc k) channel) c.others i))
        ∙ ap (λ (ms : List ChannelNumber). numbered number lower ++ ms)
        (sym (map-append (λ (m : ChannelNumber). record m { number = number m.number }) own higher))
        ∙ sym (map-append (λ (m : ChannelNumber). record m { number = number m.number }) lower (own ++ higher))

-- ---- how often a slot stands there

times-append : (n : ℕ) (xs ys : List ℕ) → times n (xs ++ ys) ≡ times n xs + times n ys
times-append n xs ys = sum_by-append (λ y. cond {A = ℕ} (eqb y n) 1 0) xs ys

times-cons : (n x : ℕ) (xs : List ℕ) → times n (x ∷ xs) ≡ cond {A = ℕ} (eqb x n) 1 0 + times n xs
times-cons n x xs = sum_by-cons (λ y. cond {A = ℕ} (eqb y n) 1 0) x xs

-- a channel is one of three things to another
one-of : (x k : ℕ) → cond {A = ℕ} (ltb x k) 1 0 + cond {A = ℕ} (eqb x k) 1 0 + cond {A = ℕ} (ltb k x) 1 0 ≡ 1
one-of x k = grind arith

-- lower channels, the channel, and higher ones
times-parts : (n k : ℕ) (ms : List ChannelNumber)
    → times n (slots_of (filter (λ (m : ChannelNumber). ltb m.channel k) ms)) + times n
    (slots_of (filter (λ (m : ChannelNumber). eqb m.channel k) ms)) + times n
    (slots_of (filter (λ (m : ChannelNumber). ltb k m.channel) ms)) ≡ times n (slots_of ms)
times-parts n k [] = refl
times-parts n k (m ∷ ms) =
    by (ltb m.channel k) (eqb m.channel k) (ltb k m.channel) (one-of m.channel k) (times-parts n k ms) where
      low : List ChannelNumber
      low = filter (λ (x : ChannelNumber). ltb x.channel k) ms

      own : List ChannelNumber
      own = filter (λ (x : ChannelNumber). eqb x.channel k) ms

      high : List ChannelNumber
      high = filter (λ (x : ChannelNumber). ltb k x.channel) ms

      by : (a b d : Bool) → cond {A = ℕ} a 1 0 + cond {A = ℕ} b 1 0 + cond {A = ℕ} d 1 0 ≡ 1
          → times n (slots_of low) + times n (slots_of own) + times n (slots_of high) ≡ times n (slots_of ms)
          → times n (slots_of (cond a (m ∷ low) low)) + times n (slots_of (cond b (m ∷ own) own)) + times n
          (slots_of (cond d (m ∷ high) high)) ≡ times n (slots_of (m ∷ ms))
      by true false false one rest =
          omega (arith, rest, times-cons n m.number (slots_of low), times-cons n m.number (slots_of ms))
      by false true false one rest =
          omega (arith, rest, times-cons n m.number (slots_of own), times-cons n m.number (slots_of ms))
      by false false true one rest =
          omega (arith, rest, times-cons n m.number (slots_of high), times-cons n m.number (slots_of ms))
      by true true d one rest = absurd (omega (arith, one))
      by true false true one rest = absurd (omega (arith, one))
      by false true true one rest = absurd (omega (arith, one))
      by false false false one rest = absurd (omega (arith, one))

-- a slot stands in a channel no more often than in the connection
pub stands-in-channel : (n channel : ℕ) (c : Link) → times n (slots_in channel c) ≤ stands_in n c
stands-in-channel n zero c = omega arith
stands-in-channel n (suc k) c = omega (arith, times-parts n (suc k) c.others)

-- where other slots wait in a channel, the connection has as many more
pub stands-with : (n channel : ℕ) (slots : List ℕ) (c : Link)
    → stands_in n (with_slots_in channel slots c) + times n (slots_in channel c) ≡ stands_in n c + times n slots
stands-with n zero slots c = omega arith
stands-with n (suc k) slots c = omega (arith, all, times-parts n (suc k) c.others)
  where
    lower : List ChannelNumber
    lower = filter (λ (m : ChannelNumber). ltb m.channel (suc k)) c.others

    higher : List ChannelNumber
    higher = filter (λ (m : ChannelNumber). ltb (suc k) m.channel) c.others

    tagged : List ℕ → List ChannelNumber
    tagged xs = map (λ n. record { channel = suc k; number = n }) xs

    untagged : (xs : List ℕ) → slots_of (tagged xs) ≡ xs
    untagged [] = refl
    untagged (x ∷ xs) = ap (λ (ys : List ℕ). x ∷ ys) (untagged xs)

    split : slots_of (with_numbers_of (suc k) slots c.others) ≡ slots_of lower ++ (slots ++ slots_of higher)
    split = map-append (λ (m : ChannelNumber). m.number) lower (tagged slots ++ higher)
        ∙ ap (λ (xs : List ℕ). slots_of lower ++ xs) (map-append (λ (m : ChannelNumber). m.number) (tagged slots) higher
        ∙ ap (λ (xs : List ℕ). xs ++ slots_of higher) (untagged slots))

    all : times n (slots_of (with_numbers_of (suc k) slots c.others)) ≡ times n
        (slots_of lower) + (times n slots + times n (slots_of higher))
    all = ap (times n) split ∙ times-append n (slots_of lower) (slots ++ slots_of higher)
        ∙ ap (λ (t : ℕ). times n (slots_of lower) + t) (times-append n slots (slots_of higher))
