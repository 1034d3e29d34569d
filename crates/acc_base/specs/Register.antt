-- The register: the open data regions, each with what its own entry counted (OpenACC 3.3, sections 2.6.5 and 2.6.7).
-- And the numbers of the next region and the next loan, which exist once for all devices.
use Rattle.std.specs.Prelude.{ℕ, ◌+◌, Bool, false, not, if◌then◌else◌, nat_lt, ◌==◌, List, [], ◌∷◌, Option, Some, None, find, filter, option_map, sum_by, count_by}
use Rattle.acc_base.specs.declared.regions.Holding.{Holding}

-- an open region: its number, and what each item of its entry counted, in written order
pub record Region : Type 0 where
  pub number : ℕ
  pub holdings : List Holding

-- the open regions by rising number, the number of the next one, and the serial number of the next loan
pub record Register : Type 0 where
  pub regions : List Region
  pub next : ℕ
  pub serial : ℕ

-- no region was opened and nothing was lent; the first region and the first loan have the number 1
abbrev pub new_register : Register
new_register = record { regions = []; next = 1; serial = 1 }

-- the open region of a number
abbrev pub region_at : ℕ → List Region → Option Region
region_at number regions = find (λ r. r.number == number) regions

-- the number of the open region that was entered last: numbers rise, so it stands last
abbrev pub newest_region : List Region → Option ℕ
newest_region [] = None
newest_region (r ∷ []) = Some r.number
newest_region (r ∷ s ∷ regions) = newest_region (s ∷ regions)

-- what an open region holds, or nothing where no region of that number is open
abbrev pub holdings_at : ℕ → List Region → Option (List Holding)
holdings_at number regions = option_map (λ r. r.holdings) (region_at number regions)

-- the regions with one more, by rising number
abbrev pub with_region : Region → List Region → List Region
with_region new [] = new ∷ []
with_region new (r ∷ rs) = if nat_lt new.number r.number then new ∷ r ∷ rs else r ∷ with_region new rs

-- the regions without that of a number
abbrev pub without_region : ℕ → List Region → List Region
without_region number regions = filter (λ r. not (r.number == number)) regions

-- a region of a number is open, and the next one counts one more
abbrev pub opened : ℕ → List Holding → Register → Register
opened number holdings g = record { regions = with_region (record { number = number; holdings = holdings }) g.regions; next = g.next + 1; serial = g.serial }

-- the region of a number is open no longer
abbrev pub closed : ℕ → Register → Register
closed number g = record { regions = without_region number g.regions; next = g.next; serial = g.serial }

-- a loan has taken the next serial number
abbrev pub numbered : Register → Register
numbered g = record { regions = g.regions; next = g.next; serial = g.serial + 1 }

-- ---- how often a block is held

-- the block is the one that was counted
abbrev pub is_counted_block : ℕ → Option ℕ → Bool
is_counted_block block None = false
is_counted_block block (Some counted) = counted == block

-- how many of these holdings counted a block
abbrev pub count_held : ℕ → List Holding → ℕ
count_held block holdings = count_by (λ h. is_counted_block block h.block) holdings

-- how many holdings of open regions counted a block
abbrev pub held_in : ℕ → List Region → ℕ
held_in block regions = sum_by (λ r. count_held block r.holdings) regions
