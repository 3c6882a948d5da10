-- The faults of `trial`, and where they come from.
--     fault_number e                              the number that the program prints
--     FailuresFit old new r                       a fault of the writer, by its count of failures
--     HasCause old new before after r             a fault of the reader or the writer, by both counts
use Rattle.std.specs.Prelude.{◌≡◌, ◌≢◌, ◌⊎◌, ℕ, Result, Ok, Err}
use Rattle.ts_text.specs.Lines.{Reading}
use Rattle.ts_tree.specs.Decoding.{SourceFailed}
use Rattle.ts_trial.specs.declared.fault.TrialFault.{TrialFault}
use Rattle.ts_trial.specs.declared.fault.TrialFault.TheVariants.{OutOfMemory, Failed}

abbrev pub fault_number : TrialFault → ℕ
fault_number OutOfMemory = 1
fault_number Failed = 5

-- the writer's count of failures changes where the writer failed, and only there
abbrev pub FailuresFit : {A : Type 0} → ℕ → ℕ → Result A TrialFault → Type 0
FailuresFit old new (Ok x) = new ≡ old
FailuresFit old new (Err OutOfMemory) = new ≡ old
FailuresFit old new (Err Failed) = new ≢ old

-- the reader failed, now or before, or else the writer did; and at any other answer the writer didn't fail
abbrev pub HasCause : {A : Type 0} → Reading → Reading → ℕ → ℕ → Result A TrialFault → Type 0
HasCause old new before after (Ok x) = after ≡ before
HasCause old new before after (Err OutOfMemory) = after ≡ before
HasCause old new before after (Err Failed) = SourceFailed old new ⊎ (after ≢ before)
