-- What turns and bytes that were read pay for.
use Rattle.std.proofs.Common.{◌≡◌, ℕ, ◌+◌, ◌*◌, ◌≤◌, arith}
use Rattle.std.proofs.lemmas.Nat.{mul-le}

-- events by work, where the work is paid
pub paid_events : (rate last few units paid work count : ℕ) → 1 ≤ paid → work ≤ few * paid → count ≤ rate * (work + units) + (4 + last) → count ≤ (rate * (few + units) + (4 + last)) * paid
paid_events rate last few units paid work count some bounded counted =
    let starts : units * 1 ≤ units * paid = mul-le units 1 units paid (omega arith) some in
    let whole : work + units ≤ few * paid + units * paid = omega (arith, starts, bounded) in
    let events : rate * (work + units) ≤ rate * (few * paid + units * paid) = mul-le rate (work + units) rate (few * paid + units * paid) (omega arith) whole in
    let rest : (4 + last) * 1 ≤ (4 + last) * paid = mul-le (4 + last) 1 (4 + last) paid (omega arith) some in
    let spread : (rate * (few + units) + (4 + last)) * paid ≡ rate * (few * paid + units * paid) + (4 + last) * paid = grind arith in
    omega (arith, events, rest, spread, counted)

-- three times as many
pub paid_thrice : (rate paid count events : ℕ) → count ≤ rate * paid → events ≤ 3 * count → events ≤ 3 * rate * paid
paid_thrice rate paid count events counted few =
    let same : 3 * rate * paid ≡ 3 * (rate * paid) = grind arith in
    omega (arith, counted, few, same)
