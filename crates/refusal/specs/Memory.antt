-- The refusal for want of memory.
use Rattle.refusal.specs.declared.cause.Cause.TheVariants.{NoMemory}
use Rattle.refusal.specs.declared.refusing.Refusal.{Refusal}

abbrev pub no_memory : Refusal
no_memory = record { cause = NoMemory; position = 0 }
