-- The adapters over std's readers and writers: the reader or writer that one has, and its count.
use Rattle.std.specs.Prelude.{◌≡◌, ℕ, Option, Result, IsNone, IsErr, is_err, is_some, if◌then◌else◌}
use Rattle.fsm_io.specs.Causes.{counted}
use Rattle.fsm_io.specs.declared.read_source.ReadSource.{ReadSource}
use Rattle.fsm_io.specs.declared.write_sink.WriteSink.{WriteSink}

abbrev pub reader_of : {T : Type 0} → ReadSource T → Option T
reader_of source = source.inner

abbrev pub faults_of_source : {T : Type 0} → ReadSource T → ℕ
faults_of_source source = source.faults

abbrev pub writer_of : {T : Type 0} → WriteSink T → Option T
writer_of sink = sink.inner

abbrev pub faults_of_sink : {T : Type 0} → WriteSink T → ℕ
faults_of_sink sink = sink.faults

-- with nothing inside a call fails; each failure is counted, and nothing else
pub record PassesOn {T V E : Type 0} (old new : Option T) (before now : ℕ) (result : Result V E) : Type 0 where
  pub none : IsNone old → IsErr result
  pub stays : is_some new ≡ is_some old
  pub count : now ≡ (if is_err result then counted before else before)
