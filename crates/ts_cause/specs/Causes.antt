-- Why a call of the system failed, and the words for it.
--     cause_of_kind kind      the cause of an error of this kind
--     IsCauseOf e cause       the cause of an error: that of its kind, but for an error of the device, which has no kind of its own
--     is_known cause          whether something is said of it
--     cause_text cause        what is said of it, or nothing where it is unknown
use Rattle.std.specs.IoError.{error_kind, raw_os_error}
use Rattle.std.specs.Prelude.{◌≡◌, ◌≢◌, ℕ, Bool, true, false, List, [], Some, codes, pos}
use Rattle.std.specs.declared.io.Error.{Error}
use Rattle.std.specs.declared.io.ErrorKind.{ErrorKind}
use Rattle.std.specs.declared.io.ErrorKind.TheVariants as kind
use Rattle.ts_cause.specs.declared.cause.Cause.{Cause}
use Rattle.ts_cause.specs.declared.cause.Cause.TheVariants as cause

abbrev pub cause_of_kind : ErrorKind → Cause
cause_of_kind kind.PermissionDenied = cause.Denied
cause_of_kind kind.StorageFull = cause.Full
cause_of_kind kind.QuotaExceeded = cause.QuotaUsed
cause_of_kind kind.ReadOnlyFilesystem = cause.ReadOnly
cause_of_kind kind.NotFound = cause.NotThere
cause_of_kind kind.NotADirectory = cause.NotFolder
cause_of_kind kind.IsADirectory = cause.IsFolder
cause_of_kind kind.AlreadyExists = cause.Taken
cause_of_kind kind.DirectoryNotEmpty = cause.Taken
cause_of_kind kind.ResourceBusy = cause.Busy
cause_of_kind kind.ExecutableFileBusy = cause.Busy
cause_of_kind kind.CrossesDevices = cause.OtherDevice
cause_of_kind kind.FileTooLarge = cause.TooLarge
cause_of_kind kind.InvalidFilename = cause.BadName
cause_of_kind kind.FilesystemLoop = cause.LinksInCircle
cause_of_kind kind.Unsupported = cause.Unsupported
cause_of_kind kind.StaleNetworkFileHandle = cause.Stale
cause_of_kind kind.OutOfMemory = cause.OutOfMemory
cause_of_kind _ = cause.Unknown

pub record IsCauseOf (e : Error) (found : Cause) : Type 0 where
  pub device : raw_os_error e ≡ Some (pos 5) → found ≡ cause.Device
  pub kind : raw_os_error e ≢ Some (pos 5) → found ≡ cause_of_kind (error_kind e)

abbrev pub is_known : Cause → Bool
is_known cause.Unknown = false
is_known _ = true

abbrev pub cause_text : Cause → List ℕ
cause_text cause.Unknown = []
cause_text cause.Denied = codes "permission denied"
cause_text cause.Full = codes "no space left on the device"
cause_text cause.QuotaUsed = codes "the disk quota is used up"
cause_text cause.ReadOnly = codes "the file system is read-only"
cause_text cause.NotThere = codes "no such file or folder"
cause_text cause.NotFolder = codes "something above it isn't a folder"
cause_text cause.IsFolder = codes "it is a folder"
cause_text cause.Taken = codes "something is there already"
cause_text cause.Busy = codes "it is busy"
cause_text cause.OtherDevice = codes "it is on another file system"
cause_text cause.TooLarge = codes "too large for the file system"
cause_text cause.BadName = codes "the file system doesn't take the name"
cause_text cause.LinksInCircle = codes "too many links"
cause_text cause.Unsupported = codes "the file system can't do this"
cause_text cause.Stale = codes "the file system is gone"
cause_text cause.OutOfMemory = codes "out of memory"
cause_text cause.Device = codes "input/output error"
